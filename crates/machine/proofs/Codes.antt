-- What the refusals' numbers tell: none is that of done, no two refusals have the same, and so a number or an answer has one outcome.
-- Assumes nothing.
use Rattle.std.proofs.Common.{ℕ, ◌-◌, ◌≡◌, refl, sym, ap, ◌∙◌, List, [], ◌∷◌, map, get_or, Bool, true, false, Result, Ok, Err, arith}
use Rattle.std.specs.Result.{IsErrAnd, result_unwrap_or, is_err}
use Rattle.std.proofs.lemmas.Bool.{true≢false}
use Rattle.machine.specs.declared.refusal.Refusal.{Refusal}
use Rattle.machine.specs.declared.refusal.Refusal.TheVariants.{Length, File, Program, Room, Journal, End, Unknown, Undefined, Full, Empty, Out, Text, Range, Session}
use Rattle.machine.specs.Refusal.{DONE, code, answered, answer_of}

-- every refusal, in the order of the numbers
abbrev pub refusals : List Refusal
refusals =
    Length ∷ File ∷ Program ∷ Room ∷ Journal ∷ End ∷ Unknown ∷ Undefined ∷ Full ∷ Empty ∷ Out ∷ Text ∷ Range ∷ Session ∷ []

pub codes_literal : map code refusals ≡ 1 ∷ 2 ∷ 3 ∷ 4 ∷ 5 ∷ 6 ∷ 7 ∷ 8 ∷ 9 ∷ 10 ∷ 11 ∷ 12 ∷ 13 ∷ 14 ∷ []
codes_literal = refl

-- the refusal of a number
abbrev pub refusal_at : ℕ → Refusal
refusal_at n = get_or refusals (n - 1) Session

back_again : (r : Refusal) → refusal_at (code r) ≡ r
back_again Length = refl
back_again File = refl
back_again Program = refl
back_again Room = refl
back_again Journal = refl
back_again End = refl
back_again Unknown = refl
back_again Undefined = refl
back_again Full = refl
back_again Empty = refl
back_again Out = refl
back_again Text = refl
back_again Range = refl
back_again Session = refl

-- no two refusals have the same number
pub code_tells : (r s : Refusal) → code r ≡ code s → r ≡ s
code_tells r s e = sym (back_again r) ∙ ap refusal_at e ∙ back_again s

-- no refusal has the number of done
pub code_not_done : (r : Refusal) → code r ≡ DONE → ⊥
code_not_done r e =
    let same = sym (back_again r) ∙ ap refusal_at e in
    let far : 1 ≡ 0 = sym (ap code same) ∙ e in
    absurd (omega (arith, far))

-- outcomes that are told by a record with their number, from which what is done can be taken back, are the same where their records are
pub told_tells : {X Y : Type 0} (told : Result X Refusal → Y) (number : Y → ℕ) (back : Y → X)
    → ((x : X) → number (told (Ok x)) ≡ DONE) → ((r : Refusal) → number (told (Err r)) ≡ code r) → ((x : X) → back (told (Ok x)) ≡ x)
    → (a b : Result X Refusal) → told a ≡ told b → a ≡ b
told_tells told number back done refused again (Ok x) (Ok y) e = ap Ok (sym (again x) ∙ ap back e ∙ again y)
told_tells told number back done refused again (Ok x) (Err s) e = absurd (code_not_done s (sym (refused s) ∙ ap number (sym e) ∙ done x))
told_tells told number back done refused again (Err r) (Ok y) e = absurd (code_not_done r (sym (refused r) ∙ ap number e ∙ done y))
told_tells told number back done refused again (Err r) (Err s) e = ap Err (code_tells r s (sym (refused r) ∙ ap number e ∙ refused s))

-- two outcomes without a value that are answered with the same number are the same
pub answered_tells : (a b : Result Unit Refusal) → answered a ≡ answered b → a ≡ b
answered_tells = told_tells answered (λ n. n) (λ n. tt) (λ x. refl) (λ r. refl) (λ x. refl)

-- two outcomes with a value that have the same answer are the same
pub answer_tells : (a b : Result ℕ Refusal) → answer_of a ≡ answer_of b → a ≡ b
answer_tells = told_tells answer_of (λ a. a.number) (λ a. a.value) (λ x. refl) (λ r. refl) (λ x. refl)

-- a refusal that is passed on is the one that was met
pub passed_on : {X : Type 0} (r : Result X Refusal) (e : Refusal) → IsErrAnd r (λ f. f ≡ e) → r ≡ Err e
passed_on (Ok x) e h = absurd h
passed_on (Err f) e h = ap Err h

-- the value of an answer is what is done, or 0
pub answer_value : (r : Result ℕ Refusal) → (answer_of r).value ≡ result_unwrap_or r 0
answer_value (Ok v) = refl
answer_value (Err e) = refl

-- an outcome that is asked whether it is a refusal tells its number: that of done where it is none, and another where it is one
pub accepted : {X : Type 0} (o : Result X Refusal) {t : Bool} → t ≡ is_err o → t ≡ false → answered o ≡ DONE
accepted (Ok x) e h = refl
accepted (Err r) e h = absurd (true≢false (sym e ∙ h))

pub not_accepted : {X : Type 0} (o : Result X Refusal) {t : Bool} → t ≡ is_err o → t ≡ true → answered o ≡ DONE → ⊥
not_accepted (Ok x) e h n = absurd (true≢false (sym h ∙ e))
not_accepted (Err r) e h n = code_not_done r n
