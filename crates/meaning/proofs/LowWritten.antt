-- What the words of the low families write, from the sums that the code makes.
-- Assumes nothing.
use Prim.Native.Nat.{ℕ, ◌*◌, ◌/◌}
use mathlib.Core.Path.{◌≡◌, sym, ◌∙◌, ap}
use mathlib.Core.Bool.{Bool}
use mathlib.Core.List.{List}
use native.Mathlib.Nat.{sub-zero}
use native.Mathlib.Omega.{arith}
use lib.ListN.{length}
use lib.IntN.{ℤ}
use Rattle.machine.specs.Size.{vector_bytes, segment_bytes}
use Rattle.parts.specs.Number.{bytes_of, bits_of}
use Rattle.registers.specs.Register.{padded}
use Rattle.registers.specs.State.{State}
use Rattle.lanes.specs.Lane.{width_of, from_lanes}
use Rattle.lanes.specs.Integer.{residue}
use Rattle.lanes.specs.Sum.{each, element, active_element, total}
use Rattle.lanes.proofs.Written.{same_lanes, length_lanes}
use Rattle.rows.specs.Table.{form_of, family_of}
use Rattle.words.specs.declared.Fields.{Fields}
use Rattle.words.proofs.Decoding.{size_in_lem}
use Rattle.rows.specs.declared.Parameters.{Parameters}
use Rattle.rows.specs.declared.Family.TheVariants.{Low}
use Rattle.rows.specs.declared.LowFamily.TheVariants.{Reduction, Segment, Long}
use Rattle.sums.specs.Sums.{lane_sum}
use Rattle.sums.specs.Panel.{per_segment, column_element, column_sum}
use Rattle.sums.proofs.Widths.{width_legal}
use Rattle.meaning.specs.Terms.{Operand1, sum_of, reduction_terms, segment_terms, long_terms, data_bytes}
use Rattle.meaning.specs.Execute.{operands_of, mask_of, written_for}
use Rattle.meaning.specs.Needs.{Executable}
use Rattle.registers.proofs.Padded.{padded_full}
use Rattle.meaning.proofs.Sizes.{low_most}
use Rattle.meaning.proofs.Effects.{operand_length}
use Rattle.meaning.proofs.Summed.{reduction_sum, segment_sum, long_sum, one_lane}

module _ (f : Fields) (k : ℕ) (s : State) (x : Executable f k s) where
  -- the width of its elements, their sign, its mask, its source and that one's size
  abbrev w : ℕ
  w = width_of f.size

  abbrev signed : Bool
  signed = (form_of f.row).parameters.signed

  abbrev mask : List ℕ
  mask = mask_of f k s

  abbrev source : List ℕ
  source = (operands_of f k s).operand1

  sized : length source ≡ vector_bytes k
  sized = operand_length f k s x Operand1

  -- the sum of the active lanes of all the source, in eight bytes
  pub written_reduction : (ps : Parameters) → ps ≡ (form_of f.row).parameters → family_of f.row ≡ Low Reduction
      → bytes_of 8 (lane_sum ps.signed w 0 (length source / w) mask source) ≡ written_for f k s
  written_reduction ps same is =
      rw (same, is)
      (ap (λ (count : ℕ). bytes_of 8 (residue 64 (total (each (active_element signed w mask source) 0 count)))) (sub-zero (length source / w) ∙ ap (λ (b : ℕ). b / w) sized)
      ∙ ap (λ (z : ℤ). bytes_of 8 (residue 64 z)) (sym (reduction_sum (operands_of f k s) signed w (vector_bytes k) mask))
      ∙ one_lane 8 (omega arith) (sum_of (operands_of f k s) (reduction_terms signed w (vector_bytes k) mask)))

  -- the sums of the source's columns, which are sixteen bytes
  pub written_segment : family_of f.row ≡ Low Segment → from_lanes w 0 (per_segment w) (column_sum w mask source) ≡ padded segment_bytes (written_for f k s)
  written_segment is =
      rw is
      (same_lanes w 0 (per_segment w) (column_sum w mask source) (λ (e : ℕ). residue (bits_of w) (sum_of (operands_of f k s) (segment_terms w (vector_bytes k) mask e)))
      (λ e l h. ap (residue (bits_of w)) (column e))
      ∙ sym (padded_full segment_bytes _ (length_lanes w 0 (per_segment w) _ ∙ (width_legal f.size (size_in_lem x.fields)).2)))
    where
      column : (e : ℕ) → total (each (column_element w mask source e) 0 (length source / segment_bytes)) ≡ sum_of (operands_of f k s) (segment_terms w (vector_bytes k) mask e)
      column e =
          ap (λ (b : ℕ). total (each (column_element w mask source e) 0 (b / segment_bytes))) sized
          ∙ sym (segment_sum (operands_of f k s) w (vector_bytes k) mask e)

  -- the sum across the low bytes, in twice a lane's bytes
  pub written_long : (ps : Parameters) → ps ≡ (form_of f.row).parameters → family_of f.row ≡ Low Long
      → bytes_of (2 * w) (residue 64 (total (each (element ps.signed w source) 0 (data_bytes f.q / w)))) ≡ written_for f k s
  written_long ps same is =
      rw (same, is)
      (ap (λ (z : ℤ). bytes_of (2 * w) (residue 64 z)) (sym (long_sum (operands_of f k s) signed w f.q))
      ∙ one_lane (2 * w) (low_most Long signed f.q f.size (size_in_lem x.fields) (rw is at x.fields.allowed)) (sum_of (operands_of f k s) (long_terms signed w f.q)))
