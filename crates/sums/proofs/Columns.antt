-- Column sums: adding a panel's rows lane by lane is adding the register's active lanes segment by segment.
-- Assumes nothing.
use Rattle.std.proofs.Common.{◌≡◌, ℕ, zero, suc, ◌+◌, ◌-◌, ◌*◌, ◌/◌, ◌%◌, ◌^◌, ◌<◌, Bool, true, false, cond, List, [], length, take, replicate, pos, sym, refl, ap, ◌∙◌, ap₂, append-nil, add-zero, suc-add, zero-add, arith}
use native.Mathlib.Nat.{add-mod-mod}
use Rattle.machine.specs.Size.{segment_bytes, most_length}
use Rattle.parts.specs.Number.{number, bits_of}
use Rattle.parts.proofs.Numbers.{drop_replicate}
use Rattle.lanes.specs.Lane.{lane, active, from_lanes}
use Rattle.lanes.specs.Integer.{residue}
use Rattle.lanes.specs.Sum.{each, counted, total}
use Rattle.lanes.proofs.Residues.{residue_sum}
use Rattle.lanes.proofs.Written.{read_lane, same_lanes}
use Rattle.sums.specs.Panel.{per_segment, WholeSegments, panel_lane, panel_row, panel_from, panel_of, column_element, column_sum, place_sum, rows_sum}
use Rattle.sums.proofs.Panels.{no_row, panel_row_lem, panel_past}

-- a lane of zeros is zero
number_zeros : (w n : ℕ) → number (take w (replicate n 0)) ≡ 0
number_zeros zero n = refl
number_zeros (suc w) zero = refl
number_zeros (suc w) (suc n) = rw (number_zeros w n)

place_zeros : (w e n : ℕ) → place_sum w e (replicate n no_row) ≡ 0
place_zeros w e zero = refl
place_zeros w e (suc n) =
    rw (place_zeros w e n, add-zero (lane w e no_row))
    (ap (λ (l : List ℕ). number (take w l)) (drop_replicate (e * w) segment_bytes 0) ∙ number_zeros w (segment_bytes - e * w))

-- the low digits of what a lane adds
counted_residue : (D : ℕ) (t : Bool) (n : ℕ) → residue D (counted t (pos n)) ≡ cond t n 0 % 2 ^ D
counted_residue D true n = refl
counted_residue D false n = refl

module _ (w : ℕ) (predicate register : List ℕ) where
  -- lane e of a panel's row
  row_reads : (s e : ℕ) → e < per_segment w → lane w e (panel_row w predicate register s) ≡ panel_lane w predicate register s e % 2 ^ bits_of w
  row_reads s e h =
      ap (lane w e) (sym (append-nil (panel_row w predicate register s)))
      ∙ read_lane w 0 (per_segment w) e (panel_lane w predicate register s) [] h
      ∙ ap (λ (i : ℕ). panel_lane w predicate register s i % 2 ^ bits_of w) (zero-add e)

  -- rows from segment s on, m of them the register's, add up to the column of m lanes
  rows_column : (e : ℕ) → e < per_segment w → (s m j : ℕ) → (s + m) * segment_bytes ≡ length register
      → place_sum w e (panel_from w predicate register s (m + j)) % 2 ^ bits_of w
      ≡ residue (bits_of w) (total (each (column_element w predicate register e) s m))
  rows_column e h s zero j k =
      ap (λ (n : ℕ). place_sum w e (panel_from w predicate register s n) % 2 ^ bits_of w) (zero-add j)
      ∙ ap (λ (rows : List (List ℕ)). place_sum w e rows % 2 ^ bits_of w) (panel_past w predicate register s j (omega arith))
      ∙ ap (λ (n : ℕ). n % 2 ^ bits_of w) (place_zeros w e j)
  rows_column e h s (suc m) j k =
      ap (λ (rows : List (List ℕ)). place_sum w e rows % M) (ap (panel_from w predicate register s) (suc-add m j) ∙ panel_row_lem w predicate register s (m + j) (omega arith))
      ∙ ap (λ (n : ℕ). (n + rest) % M) (row_reads s e h)
      ∙ sym (add-mod-mod (panel_lane w predicate register s e % M) rest M)
      ∙ ap₂ (λ (a b : ℕ). (a + b) % M)
      (sym (counted_residue (bits_of w) (active w (s * per_segment w + e) predicate) (lane w (s * per_segment w + e) register)))
      (rows_column e h (suc s) m j (omega arith))
      ∙ sym (residue_sum (bits_of w) (column_element w predicate register e s) (total (each (column_element w predicate register e) (suc s) m)))
    where
      M : ℕ
      M = 2 ^ bits_of w

      rest : ℕ
      rest = place_sum w e (panel_from w predicate register (suc s) (m + j))

  -- the sum at a place of the panel's rows is that of the register's column
  pub place_is_column : (e : ℕ) → e < per_segment w → WholeSegments register → rows_sum w (panel_of w predicate register) e ≡ column_sum w predicate register e
  unfolding panel_of
  place_is_column e h whole =
      ap (λ (n : ℕ). place_sum w e (panel_from w predicate register 0 n) % 2 ^ bits_of w) all
      ∙ rows_column e h 0 (length register / segment_bytes) (most_length - length register / segment_bytes) (omega arith)
    where
      all : most_length ≡ length register / segment_bytes + (most_length - length register / segment_bytes)
      all = omega arith

  -- addqv adds the panel's rows: their column sums are the sums of the register's active lanes at each place of a segment
  pub addqv_is_column_sums : WholeSegments register
      → from_lanes w 0 (per_segment w) (rows_sum w (panel_of w predicate register)) ≡ from_lanes w 0 (per_segment w) (column_sum w predicate register)
  addqv_is_column_sums whole =
      same_lanes w 0 (per_segment w) (rows_sum w (panel_of w predicate register)) (column_sum w predicate register)
      (λ e l h. place_is_column e (omega arith) whole)
