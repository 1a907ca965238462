-- What the call for a lane answers: each refusal exactly in its case, one result, and, added up, the subtotal of the same lanes.
-- Assumes nothing.
use Prim.Native.Nat.{ℕ, suc, ◌+◌, ◌-◌, ◌^◌, ◌≤◌, ◌<◌}
use mathlib.Core.Path.{◌≡◌, refl, sym, ◌∙◌, ap}
use mathlib.Core.Logic.{◌↔◌}
use mathlib.Core.Bool.{Bool, true, false, cond}
use mathlib.Core.List.{List}
use native.Mathlib.Nat.{zero-mod}
use native.Mathlib.Omega.{arith}
use lib.IntN.{ℤ}
use Rattle.std.specs.Prelude.{Result}
use Rattle.machine.specs.declared.refusal.Refusal.{Refusal}
use Rattle.machine.specs.Refusal.{DONE, First, in_order}
use Rattle.machine.proofs.Codes.{told_tells}
use Rattle.machine.proofs.Tests.{first_exactly, one_result}
use Rattle.registers.specs.Register.{vector_of, predicate_of}
use Rattle.lanes.specs.Lane.{width_of, active}
use Rattle.lanes.specs.Integer.{residue}
use Rattle.lanes.specs.Sum.{each, element, counted, active_element, wrapped_sum}
use Rattle.lanes.proofs.Sums.{wrapped_sum_lem, same_each, map_each}
use Rattle.totals.specs.Calls.{lanes_at, subtotal_refused, subtotal_answer}
use Rattle.totals.specs.Lane.{Lane, lane_tests, lane_refused, lane_told, lane_in, lane_answer, lane_adds}
use Rattle.totals.specs.declared.FoundLane.{FoundLane}
use Rattle.totals.proofs.Accepted.{Accepted, subtotal_accepted}
use Rattle.totals.proofs.OneLane.{lane_done}

-- what is counted has the low digits of what it is, or of nothing
counted_digits : (t : Bool) (x : ℤ) → cond t (residue 64 x) 0 ≡ residue 64 (counted t x)
counted_digits true x = refl
counted_digits false x = sym (zero-mod (2 ^ 64))

module _ (k : ℕ) (z p : List ℕ) (source predicate size : ℕ) where
  -- the refusals of a lane: each exactly in its case, in the paper's order
  pub lane_exactly : (e n : ℕ) → lane_refused k z p source predicate size e ≡ suc n ↔ First (lane_tests k z p source predicate size e) (suc n)
  unfolding lane_refused
  lane_exactly e n = first_exactly (lane_tests k z p source predicate size e) n

  pub lane_in_order : (e : ℕ) → in_order (lane_tests k z p source predicate size e) ≡ true
  lane_in_order e = refl

  module _ (signed : Bool) where
    -- what the paper tells of a lane is one record
    pub lane_answer_determined : (e : ℕ) {r s : Lane} → r ≡ lane_answer k z p source predicate size signed e → s ≡ lane_answer k z p source predicate size signed e → r ≡ s
    lane_answer_determined e = one_result _ _ _

    pub lane_determined : (e : ℕ) (a b : Result FoundLane Refusal)
        → lane_in a ≡ lane_answer k z p source predicate size signed e → lane_in b ≡ lane_answer k z p source predicate size signed e → a ≡ b
    lane_determined e a b s t =
        told_tells lane_in (λ l. l.number) (λ l. record { value = l.value; active = l.active; start = l.start; bit = l.bit }) (λ x. refl) (λ r. refl) (λ x. refl) a b (s ∙ sym t)

    -- a lane that there is, is told
    pub lane_is_told : Accepted k z p source predicate size → (e : ℕ) → e < lanes_at k size
        → lane_answer k z p source predicate size signed e ≡ lane_told k z p source predicate size signed e
    lane_is_told h e l = rw (lane_done k z p source predicate size e h l)

    -- what the call tells of the lanes from a up to but without b, the active ones added modulo 2^64, is what the subtotal answers
    pub lanes_add_up : (a b : ℕ) → subtotal_refused k z p source predicate size a b ≡ DONE
        → wrapped_sum 64 (each (λ e. lane_adds (lane_answer k z p source predicate size signed e)) a (b - a))
        ≡ (subtotal_answer k z p source predicate size signed a b).value
    lanes_add_up a b done =
        ap (wrapped_sum 64) (same_each (λ e. lane_adds (lane_answer k z p source predicate size signed e)) (λ e. residue 64 (adds e)) a (b - a) each_lane)
        ∙ ap (wrapped_sum 64) (sym (map_each (residue 64) adds a (b - a)))
        ∙ wrapped_sum_lem 64 (each adds a (b - a))
        ∙ rw done
      where
        adds : ℕ → ℤ
        adds = active_element signed (width_of size) (predicate_of k predicate p) (vector_of k source z)

        accepted : Accepted k z p source predicate size × (a ≤ b) × (b ≤ lanes_at k size)
        accepted = subtotal_accepted k z p source predicate size a b done

        each_lane : (e : ℕ) → a ≤ e → e < a + (b - a) → lane_adds (lane_answer k z p source predicate size signed e) ≡ residue 64 (adds e)
        each_lane e l m =
            let inside : e < lanes_at k size = omega (arith, accepted.1, accepted.2) in
            ap lane_adds (lane_is_told accepted.0 e inside)
            ∙ counted_digits (active (width_of size) e (predicate_of k predicate p)) (element signed (width_of size) (vector_of k source z) e)
