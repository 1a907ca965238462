-- The addqv panel: sixteen rows of sixteen bytes, row s being segment s of the register with its inactive lanes zeroed; rows past the
-- register's end are zero.
use Rattle.std.specs.Prelude.{◌≡◌, ℕ, zero, suc, ◌+◌, ◌*◌, ◌/◌, ◌%◌, ◌^◌, ◌≤◌, false, cond, List, [], ◌∷◌, length, replicate, ℤ, nat_lt}
use Rattle.machine.specs.Size.{segment_bytes, most_length, vector_bytes}
use Rattle.sums.specs.Sums.{Governs}
use Rattle.lanes.specs.Lane.{lane, active, from_lanes}
use Rattle.parts.specs.Number.{bits_of}
use Rattle.lanes.specs.Integer.{residue}
use Rattle.lanes.specs.Sum.{each, active_element, total}

-- the lanes of a segment
abbrev pub per_segment : ℕ → ℕ
per_segment w = segment_bytes / w

-- lanes of w bytes fill a segment
abbrev pub FillsSegment : ℕ → Type 0
FillsSegment w = per_segment w * w ≡ segment_bytes

-- whole segments, at most as many as the longest register has
pub record WholeSegments (register : List ℕ) : Type 0 where
  pub whole : length register % segment_bytes ≡ 0
  pub few : length register ≤ vector_bytes most_length

-- a register of whole segments that lanes of w bytes fill, with a predicate that governs it
pub record GovernedSegments (w : ℕ) (predicate register : List ℕ) : Type 0 where
  pub governs : Governs w predicate register
  pub fills : FillsSegment w
  pub segments : WholeSegments register

-- segment s of a register that lanes of w bytes fill, with a predicate that governs it
pub record GovernedSegment (w s : ℕ) (predicate register : List ℕ) : Type 0 where
  pub governs : Governs w predicate register
  pub fills : FillsSegment w
  pub inside : s * segment_bytes + segment_bytes ≤ length register

-- lane e of segment s: its number if it is active, else zero
abbrev pub panel_lane : ℕ → List ℕ → List ℕ → ℕ → ℕ → ℕ
panel_lane w predicate register s e =
    cond (active w (s * per_segment w + e) predicate) (lane w (s * per_segment w + e) register) 0

-- segment s with its inactive lanes zeroed
abbrev pub panel_row : ℕ → List ℕ → List ℕ → ℕ → List ℕ
panel_row w predicate register s = from_lanes w 0 (per_segment w) (panel_lane w predicate register s)

-- n rows from row s on; a row past the register's end is zero
unfoldable pub panel_from : ℕ → List ℕ → List ℕ → ℕ → ℕ → List (List ℕ)
panel_from w predicate register s zero = []
panel_from w predicate register s (suc n) =
    cond (nat_lt (s * segment_bytes) (length register)) (panel_row w predicate register s) (replicate segment_bytes 0)
    ∷ panel_from w predicate register (suc s) n

-- the whole panel
unfoldable pub panel_of : ℕ → List ℕ → List ℕ → List (List ℕ)
panel_of w predicate register = panel_from w predicate register 0 most_length

-- a panel of zeros
unfoldable pub no_panel : List (List ℕ)
no_panel = replicate most_length (replicate segment_bytes 0)

-- what segment s adds at place e
abbrev pub column_element : ℕ → List ℕ → List ℕ → ℕ → ℕ → ℤ
column_element w predicate register e s = active_element false w predicate register (s * per_segment w + e)

-- the sum at place e of a register's segments, modulo 2^width
abbrev pub column_sum : ℕ → List ℕ → List ℕ → ℕ → ℕ
column_sum w predicate register e =
    residue (bits_of w) (total (each (column_element w predicate register e) 0 (length register / segment_bytes)))

-- the numbers at place e of some rows, added
abbrev pub place_sum : ℕ → ℕ → List (List ℕ) → ℕ
place_sum w e [] = 0
place_sum w e (row ∷ rows) = lane w e row + place_sum w e rows

-- the sum at place e of some rows, modulo 2^width
abbrev pub rows_sum : ℕ → List (List ℕ) → ℕ → ℕ
rows_sum w rows e = place_sum w e rows % 2 ^ bits_of w
