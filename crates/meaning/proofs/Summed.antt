-- The sums of terms are the sums of a register's elements: those that a predicate governs, those of a column, and those of the low bytes.
-- Assumes nothing.
use Prim.Native.Nat.{ℕ, ◌/◌, ◌≤◌}
use mathlib.Core.Path.{◌≡◌, sym, ◌∙◌, ap}
use mathlib.Core.Bool.{Bool}
use mathlib.Core.List.{List, append-nil}
use lib.IntN.{ℤ}
use Rattle.machine.specs.Size.{segment_bytes}
use Rattle.parts.specs.Number.{bytes_of, bits_of}
use Rattle.lanes.specs.Lane.{from_lanes}
use Rattle.lanes.specs.Integer.{residue}
use Rattle.lanes.specs.Sum.{each, element, active_element, total}
use Rattle.lanes.proofs.Sums.{map_each}
use Rattle.lanes.proofs.Written.{bytes_residue}
use Rattle.sums.specs.Panel.{column_element}
use Rattle.meaning.specs.Terms.{Operands, added, sum_of, reduction_terms, segment_terms, long_terms, data_bytes}

module _ (o : Operands) where
  pub reduction_sum : (signed : Bool) (w bytes : ℕ) (mask : List ℕ)
      → sum_of o (reduction_terms signed w bytes mask) ≡ total (each (active_element signed w mask o.operand1) 0 (bytes / w))
  reduction_sum signed w bytes mask = ap total (map_each (added o) _ 0 (bytes / w))

  pub segment_sum : (w bytes : ℕ) (mask : List ℕ) (e : ℕ)
      → sum_of o (segment_terms w bytes mask e) ≡ total (each (column_element w mask o.operand1 e) 0 (bytes / segment_bytes))
  segment_sum w bytes mask e = ap total (map_each (added o) _ 0 (bytes / segment_bytes))

  pub long_sum : (signed : Bool) (w q : ℕ) → sum_of o (long_terms signed w q) ≡ total (each (element signed w o.operand1) 0 (data_bytes q / w))
  long_sum signed w q = ap total (map_each (added o) _ 0 (data_bytes q / w))

-- one lane of c bytes
pub one_lane : (c : ℕ) → c ≤ 8 → (z : ℤ) → bytes_of c (residue 64 z) ≡ from_lanes c 0 1 (λ (e : ℕ). residue (bits_of c) z)
one_lane c h z = sym (append-nil (bytes_of c (residue (bits_of c) z)) ∙ bytes_residue c h z)
