-- Segments added one after the other into a row of sixteen bytes, by halves: a half is the bytes that one byte of a predicate governs.
use Rattle.std.specs.Prelude.{ℕ, suc, ◌+◌, ◌-◌, ◌*◌, ◌/◌, ◌≤◌, List, ◌++◌, length}
use Rattle.machine.specs.Size.{segment_bytes}
use Rattle.parts.specs.Number.{bits_of}
use Rattle.lanes.specs.Lane.{from_lanes}
use Rattle.lanes.specs.Integer.{residue}
use Rattle.lanes.specs.Sum.{each, total}
use Rattle.sums.specs.Sums.{Governs}
use Rattle.sums.specs.Panel.{per_segment, FillsSegment, column_element}

-- the bytes of a half
abbrev pub half_bytes : ℕ
half_bytes = segment_bytes / 2

-- the lanes of a half
abbrev pub per_half : ℕ → ℕ
per_half w = half_bytes / w

-- the sum at place e of a register's first n segments, modulo 2^width
abbrev pub column_below : ℕ → List ℕ → List ℕ → ℕ → ℕ → ℕ
column_below w predicate register n e = residue (bits_of w) (total (each (column_element w predicate register e) 0 n))

-- a row of the sums of a register's first n segments, and at the places before `place` of one segment more
unfoldable pub added_row : ℕ → List ℕ → List ℕ → ℕ → ℕ → List ℕ
added_row w predicate register n place =
    from_lanes w 0 place (column_below w predicate register (suc n))
    ++ from_lanes w place (per_segment w - place) (column_below w predicate register n)

-- half h of a register that lanes of w bytes fill, with a predicate that governs it
pub record GovernedHalf (w h : ℕ) (predicate register : List ℕ) : Type 0 where
  pub governs : Governs w predicate register
  pub fills : FillsSegment w
  pub inside : h * half_bytes + half_bytes ≤ length register
