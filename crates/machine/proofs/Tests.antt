-- Tests made in order: the first whose case is given decides the number, and with a refusal nothing else is answered. Once, for any tests
-- that a call makes, and for checks made one after the other.
-- Assumes nothing.
use Prim.Native.Nat.{ℕ, zero, suc}
use mathlib.Core.Path.{◌≡◌, refl, sym, ◌∙◌, ap}
use mathlib.Core.Logic.{◌↔◌, inl, inr}
use mathlib.Core.Bool.{true, false}
use mathlib.Core.List.{List, [], ◌∷◌}
use native.Mathlib.Omega.{arith}
use Rattle.machine.specs.Refusal.{Test, DONE, first, refused, None, First, unless_refused, answer}
use Rattle.machine.specs.Refusal.{Answer}

-- no test has DONE for its number
abbrev pub Refuse : List Test → Type 0
Refuse [] = Unit {0}
Refuse ((p, zero, b) ∷ ts) = ⊥
Refuse ((p, suc n, b) ∷ ts) = Refuse ts

-- where tests do not refuse, none of them holds
pub first_none : (ts : List Test) → Refuse ts → refused ts ≡ DONE → None ts
first_none [] ok e = tt
first_none ((p, zero, b) ∷ ts) ok e = absurd ok
first_none ((p, suc n, true) ∷ ts) ok e = absurd (omega arith)
first_none ((p, suc n, false) ∷ ts) ok e = (refl, first_none ts ok e)

-- where the tests before do not refuse, what comes after them decides
pub first_after : (ts : List Test) (after : ℕ) → Refuse ts → refused ts ≡ DONE → first ts after ≡ after
first_after [] after ok e = refl
first_after ((p, zero, b) ∷ ts) after ok e = absurd ok
first_after ((p, suc n, true) ∷ ts) after ok e = cc
first_after ((p, suc n, false) ∷ ts) after ok e = first_after ts after ok e

-- where the tests before refuse, what comes after them does not matter
pub first_before : (ts : List Test) (after : ℕ) → (refused ts ≡ DONE → ⊥) → refused ts ≡ first ts after
first_before [] after h = absurd (h refl)
first_before ((p, n, true) ∷ ts) after h = refl
first_before ((p, n, false) ∷ ts) after h = first_before ts after h

-- each refusal comes exactly where its test holds and none before it does
pub first_exactly : (ts : List Test) (n : ℕ) → refused ts ≡ suc n ↔ First ts (suc n)
first_exactly ts n = (comes ts, given ts)
  where
    comes : (ts : List Test) → refused ts ≡ suc n → First ts (suc n)
    comes [] e = omega arith
    comes ((p, m, true) ∷ ts) e = inl (refl, e)
    comes ((p, m, false) ∷ ts) e = inr (refl, comes ts e)

    given : (ts : List Test) → First ts (suc n) → refused ts ≡ suc n
    given [] h = absurd h
    given ((p, m, true) ∷ ts) (inl h) = h.1
    given ((p, m, true) ∷ ts) (inr h) = cc h.0
    given ((p, m, false) ∷ ts) (inl h) = cc h.0
    given ((p, m, false) ∷ ts) (inr h) = given ts h.1

-- of two things, with a refusal it is the second
pub unless_refused_lem : {X : Type 0} (n : ℕ) (done other : X) → (n ≡ DONE → ⊥) → unless_refused n done other ≡ other
unless_refused_lem zero done other h = absurd (h refl)
unless_refused_lem (suc n) done other h = refl

-- checks in sequence: what a check that answers r tells of the number of the whole call, and of the rest that is tested after it
pub record Checked (r whole rest : ℕ) : Type 0 where
  pub refuses : (r ≡ 0 → ⊥) → r ≡ whole
  pub passes : r ≡ 0 → whole ≡ rest

-- it tells this where it makes the first tests, or the first of those that are left past the checks before it
pub checked : (tests : List Test) → Refuse tests → {whole rest r : ℕ} → whole ≡ first tests rest → r ≡ refused tests → Checked r whole rest
checked tests ok {rest = rest} so_far answers =
    record {
      refuses = λ h. answers ∙ first_before tests rest (λ e. h (answers ∙ e)) ∙ sym so_far;
      passes = λ h. so_far ∙ first_after tests rest ok (sym answers ∙ h);
    }

-- where a call does not refuse, neither do the tests before nor those after
pub none_refused : (tests : List Test) → Refuse tests → (after : ℕ) → first tests after ≡ 0 → (refused tests ≡ 0) × (after ≡ 0)
none_refused [] ok after e = (refl, e)
none_refused ((p, zero, b) ∷ tests) ok after e = absurd ok
none_refused ((p, suc n, true) ∷ tests) ok after e = absurd (omega arith)
none_refused ((p, suc n, false) ∷ tests) ok after e = none_refused tests ok after e

-- with a refusal a buffer holds what stood in it
pub kept : {X : Type 0} (n r : ℕ) (done stood : X) → r ≡ n → (r ≡ 0 → ⊥) → stood ≡ unless_refused n done stood
kept n r done stood e h = sym (unless_refused_lem n done stood (λ z. h (e ∙ z)))

-- without a refusal a buffer holds what the call makes
pub left : {X : Type 0} (n : ℕ) (done stood : X) → n ≡ 0 → done ≡ unless_refused n done stood
left n done stood e = rw e

-- with a refusal a call that answers several values answers the refusal's number and nothing
pub nothing_told : {X : Type 0} (nothing : ℕ → X) (m n : ℕ) (told : X) → m ≡ n → (m ≡ DONE → ⊥) → nothing m ≡ unless_refused n told (nothing n)
nothing_told nothing m n told e h = ap nothing e ∙ sym (unless_refused_lem n told (nothing n) (λ z. h (e ∙ z)))

-- an answer has the value 0 with a refusal, and the call's own without
pub refused_answer : (m n v : ℕ) → m ≡ n → (m ≡ DONE → ⊥) → ◌≡◌ {A = Answer} (record { number = m; value = 0 }) (answer n v)
refused_answer m zero v e h = absurd (h e)
refused_answer m (suc n) v e h = ap (λ (i : ℕ). record { number = i; value = 0 }) e

pub done_answer : (m n v u : ℕ) → m ≡ n → n ≡ DONE → v ≡ u → ◌≡◌ {A = Answer} (record { number = m; value = v }) (answer n u)
done_answer m n v u e h same = rw (e, h, same)

-- two results of a contract that says what the result is are the same
pub one_result : {A : Type 0} (x r s : A) → r ≡ x → s ≡ x → r ≡ s
one_result x r s p q = p ∙ sym q
