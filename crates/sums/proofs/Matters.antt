-- What matters for a sum: the predicate bits at e·w and the active lanes. Other predicate bits and inactive lanes change nothing.
-- Assumes nothing.
use Rattle.std.proofs.Common.{◌≡◌, ℕ, ◌-◌, ◌<◌, ◌≤◌, Bool, eqb, List, ℤ, ap, arith}
use Rattle.parts.specs.Number.{number, bits_of}
use Rattle.lanes.specs.Lane.{active}
use Rattle.lanes.specs.Integer.{integer, residue}
use Rattle.lanes.specs.Sum.{element, active_element, total}
use Rattle.lanes.proofs.Sums.{same_counted, same_each}
use Rattle.sums.specs.Sums.{Governed, AgreeAt, lane_sum}

module _ (w : ℕ) (a b : Governed) where
  -- a lane that agrees is active in both or in neither
  pub same_active : (i : ℕ) → AgreeAt w i a b → active w i a.predicate ≡ active w i b.predicate
  same_active i h = ap (λ (n : ℕ). eqb n 1) h.0

  -- a lane that agrees adds the same in both
  same_element : (signed : Bool) (i : ℕ) → AgreeAt w i a b
      → active_element signed w a.predicate a.register i ≡ active_element signed w b.predicate b.register i
  same_element signed i h =
      same_counted (active w i a.predicate) (active w i b.predicate) (element signed w a.register i) (element signed w b.register i)
      (same_active i h)
      (λ t. ap (λ (bytes : List ℕ). integer signed (bits_of w) (number bytes)) (h.1 t))

  -- the sum of a range is the same where every lane of it agrees
  pub sum_of_active : (signed : Bool) (from to : ℕ) → ((i : ℕ) → from ≤ i → i < to → AgreeAt w i a b)
      → lane_sum signed w from to a.predicate a.register ≡ lane_sum signed w from to b.predicate b.register
  sum_of_active signed from to h =
      ap (λ (zs : List ℤ). residue 64 (total zs))
      (same_each (active_element signed w a.predicate a.register) (active_element signed w b.predicate b.register) from (to - from)
      (λ i l k. same_element signed i (h i l (omega arith))))
