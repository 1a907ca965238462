-- What the calls' answers are: each is determined by its contract and each refusal comes exactly in its case; a subtotal is the sum that is
-- split down to single lanes, of no lanes 0, and of all lanes the sum in lane order.
-- Assumes nothing.
use Prim.Native.Nat.{ℕ, zero, suc, ◌/◌}
use mathlib.Core.Path.{◌≡◌, refl, sym, ◌∙◌, ap}
use mathlib.Core.Logic.{◌↔◌}
use mathlib.Core.Bool.{Bool, true}
use mathlib.Core.List.{List}
use native.Mathlib.Omega.{arith}
use borrow.Author.Tests.{le-leb}
use Rattle.machine.specs.Size.{vector_bytes}
use Rattle.registers.specs.Register.{vector_of, predicate_of}
use Rattle.registers.specs.declared.files.Files.{Files}
use Rattle.registers.proofs.Told.{AreLent, files_tell}
use denote.Ref.{Bor}
use Rattle.std.specs.Prelude.{Result, IfOk}
use Rattle.machine.specs.declared.refusal.Refusal.{Refusal}
use Rattle.machine.specs.Refusal.{DONE, First, in_order, Answer, answer, answered, answer_of}
use Rattle.machine.proofs.Codes.{answer_tells}
use Rattle.machine.proofs.Tests.{first_exactly, first_after, one_result}
use Rattle.lanes.specs.Lane.{width_of}
use Rattle.lanes.specs.Sum.{active_element}
use Rattle.sums.specs.Sums.{lane_sum}
use Rattle.sums.specs.Split.{split_sum}
use Rattle.totals.specs.Calls.{panel_tests, panel_refused, panel_answer, subtotal_tests, subtotal_refused, subtotal_answer}
use Rattle.sums.proofs.Ranges.{sum_none}
use Rattle.sums.proofs.Split.{split_is_lane_order}

pub panel_refusal_determined : (k : ℕ) (z p : Bor (List ℕ)) (source predicate size : ℕ) (a b : Result Files Refusal)
    → answered a ≡ panel_refused k z.now p.now source predicate size
    → IfOk a (AreLent k z p)
    → answered b ≡ panel_refused k z.now p.now source predicate size
    → IfOk b (AreLent k z p)
    → a ≡ b
panel_refusal_determined k z p source predicate size a b s x t y = files_tell k z p a b (s ∙ sym t) x y

-- with 0 as the value, an answer's value is 0
zero_value : (n v : ℕ) → v ≡ 0 → (answer n v).value ≡ 0
zero_value zero v e = e
zero_value (suc n) v e = refl

module _ (k : ℕ) (z p : List ℕ) (source predicate size : ℕ) where
  -- the refusals of a panel: each exactly in its case, in the paper's order
  pub panel_exactly : (n : ℕ) → panel_refused k z p source predicate size ≡ suc n ↔ First (panel_tests k z p source predicate size) (suc n)
  panel_exactly = first_exactly (panel_tests k z p source predicate size)

  pub panel_in_order : in_order (panel_tests k z p source predicate size) ≡ true
  panel_in_order = refl

  -- the refusals of a subtotal: each exactly in its case, in the paper's order
  pub subtotal_exactly : (a b n : ℕ) → subtotal_refused k z p source predicate size a b ≡ suc n ↔ First (subtotal_tests k z p source predicate size a b) (suc n)
  subtotal_exactly a b = first_exactly (subtotal_tests k z p source predicate size a b)

  pub subtotal_in_order : (a b : ℕ) → in_order (subtotal_tests k z p source predicate size a b) ≡ true
  subtotal_in_order a b = refl

  -- the numbers of a panel's refusal are the same
  pub panel_refused_determined : {r s : ℕ} → r ≡ panel_refused k z p source predicate size → s ≡ panel_refused k z p source predicate size → r ≡ s
  panel_refused_determined = one_result _ _ _

  pub panel_determined : {r s : List (List ℕ)} → r ≡ panel_answer k z p source predicate size → s ≡ panel_answer k z p source predicate size → r ≡ s
  panel_determined = one_result _ _ _

  module _ (signed : Bool) where
    -- what the paper tells of a subtotal is one record
    pub subtotal_answer_determined : (a b : ℕ) {r s : Answer}
        → r ≡ subtotal_answer k z p source predicate size signed a b
        → s ≡ subtotal_answer k z p source predicate size signed a b
        → r ≡ s
    subtotal_answer_determined a b = one_result _ _ _

    pub subtotal_determined : (a b : ℕ) (r s : Result ℕ Refusal)
        → answer_of r ≡ subtotal_answer k z p source predicate size signed a b
        → answer_of s ≡ subtotal_answer k z p source predicate size signed a b
        → r ≡ s
    subtotal_determined a b r s x y = answer_tells r s (x ∙ sym y)

    -- the range is split at its middle and each half summed the same way
    pub subtotal_is_split : (a b : ℕ)
        → subtotal_answer k z p source predicate size signed a b
        ≡ answer (subtotal_refused k z p source predicate size a b) (split_sum signed (width_of size) a b (predicate_of k predicate p) (vector_of k source z))
    subtotal_is_split a b =
        ap (answer (subtotal_refused k z p source predicate size a b))
        (sym (split_is_lane_order signed (width_of size) a b (predicate_of k predicate p) (vector_of k source z)))

    -- a = b gives 0
    pub subtotal_of_none : (a : ℕ) → (subtotal_answer k z p source predicate size signed a a).value ≡ 0
    subtotal_of_none a =
        zero_value (subtotal_refused k z p source predicate size a a)
        (lane_sum signed (width_of size) a a (predicate_of k predicate p) (vector_of k source z))
        (sum_none 64 (active_element signed (width_of size) (predicate_of k predicate p) (vector_of k source z)) a)

    -- the subtotal of all lanes is the sum of all lanes in order
    pub subtotal_of_all : panel_refused k z p source predicate size ≡ DONE
        → let count = vector_bytes k / width_of size in
        subtotal_answer k z p source predicate size signed 0 count
        ≡ record { number = DONE; value = lane_sum signed (width_of size) 0 count (predicate_of k predicate p) (vector_of k source z) }
    subtotal_of_all h =
        ap (λ (n : ℕ). answer n (lane_sum signed (width_of size) 0 (vector_bytes k / width_of size) (predicate_of k predicate p) (vector_of k source z))) done
      where
        done : subtotal_refused k z p source predicate size 0 (vector_bytes k / width_of size) ≡ DONE
        done =
            first_after (panel_tests k z p source predicate size) _ tt h
            ∙ rw (le-leb 0 (vector_bytes k / width_of size) (omega arith), le-leb (vector_bytes k / width_of size) (vector_bytes k / width_of size) (omega arith))
