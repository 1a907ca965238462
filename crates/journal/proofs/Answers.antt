-- The answers of fresh, of a position and of an entry: tests in the paper's order, each refusal exactly where its test holds and none before it does, and
-- contracts that allow one result.
-- Assumes nothing.
use Prim.Native.Nat.{ℕ, suc}
use mathlib.Core.Path.{◌≡◌, refl, sym, ◌∙◌}
use mathlib.Core.Bool.{true}
use mathlib.Core.Logic.{◌↔◌}
use mathlib.Core.List.{List}
use Rattle.std.specs.Prelude.{Result}
use Rattle.machine.specs.Refusal.{Answer, answered, answer_of, First, in_order}
use Rattle.machine.specs.declared.refusal.Refusal.{Refusal}
use Rattle.machine.proofs.Codes.{told_tells, answered_tells, answer_tells}
use Rattle.machine.proofs.Tests.{first_exactly, one_result}
use Rattle.journal.specs.Calls.{fresh_tests, position_tests, entry_tests, freshened, position_refused, position_answer, entry_refused, entry_answer, held_in, Freshened, Held}
use Rattle.journal.specs.declared.FoundEntry.{FoundEntry}
use Rattle.journal.proofs.Left.{left_determined}

pub fresh_in_order : (k version : ℕ) (journal : List ℕ) → in_order (fresh_tests k version journal) ≡ true
fresh_in_order k version journal = refl

pub position_in_order : (k : ℕ) (journal : List ℕ) → in_order (position_tests k journal) ≡ true
position_in_order k journal = refl

pub fresh_exactly : (k version n : ℕ) (journal : List ℕ) → (freshened k version journal).number ≡ suc n ↔ First (fresh_tests k version journal) (suc n)
unfolding freshened
fresh_exactly k version n journal = first_exactly (fresh_tests k version journal) n

pub position_exactly : (k n : ℕ) (journal : List ℕ) → position_refused k journal ≡ suc n ↔ First (position_tests k journal) (suc n)
unfolding position_refused
position_exactly k n journal = first_exactly (position_tests k journal) n

pub entry_in_order : (k : ℕ) (journal : List ℕ) (i : ℕ) → in_order (entry_tests k journal i) ≡ true
entry_in_order k journal i = refl

pub entry_exactly : (k : ℕ) (journal : List ℕ) (i n : ℕ) → entry_refused k journal i ≡ suc n ↔ First (entry_tests k journal i) (suc n)
unfolding entry_refused
entry_exactly k journal i n = first_exactly (entry_tests k journal i) n

-- the numbers that a fresh journal is answered with, and the bytes that it leaves, are the same, whatever numbers they are
pub freshened_determined : (k version : ℕ) (journal : List ℕ) (r q : ℕ) (a b : List ℕ) → Freshened k version journal r a → Freshened k version journal q b
    → (r ≡ q) × (a ≡ b)
freshened_determined k version journal r q a b x y = left_determined (freshened k version journal) r q a b x y

-- two results of a call are the same
pub fresh_determined : (k version : ℕ) (journal : List ℕ) (r q : Result Unit Refusal) (a b : List ℕ)
    → Freshened k version journal (answered r) a → Freshened k version journal (answered q) b → (r ≡ q) × (a ≡ b)
fresh_determined k version journal r q a b x y =
    let same = freshened_determined k version journal (answered r) (answered q) a b x y in (answered_tells r q same.0, same.1)

-- what the paper tells of a position is one record
pub position_answer_determined : (k : ℕ) (journal : List ℕ) (r q : Answer) → r ≡ position_answer k journal → q ≡ position_answer k journal → r ≡ q
position_answer_determined k journal = one_result (position_answer k journal)

pub position_determined : (k : ℕ) (journal : List ℕ) (r q : Result ℕ Refusal)
    → answer_of r ≡ position_answer k journal → answer_of q ≡ position_answer k journal → r ≡ q
position_determined k journal r q x y = answer_tells r q (x ∙ sym y)

-- what the paper tells of a held entry is one record
pub entry_answer_determined : (k : ℕ) (journal : List ℕ) (i : ℕ) (r q : Held) → r ≡ entry_answer k journal i → q ≡ entry_answer k journal i → r ≡ q
entry_answer_determined k journal i = one_result (entry_answer k journal i)

pub entry_determined : (k : ℕ) (journal : List ℕ) (i : ℕ) (r q : Result FoundEntry Refusal)
    → held_in r ≡ entry_answer k journal i → held_in q ≡ entry_answer k journal i → r ≡ q
entry_determined k journal i r q x y =
    told_tells held_in (λ h. h.number) (λ h. record { target = h.target; start = h.start; bytes = h.bytes }) (λ f. refl) (λ e. refl) (λ f. refl) r q
    (x ∙ sym y)
