-- Lanes of a register, and the predicate bits that govern them. A lane of w bytes with number e starts at byte e·w; lane 0 is the
-- least significant.
use Rattle.std.specs.Prelude.{ℕ, zero, suc, ◌+◌, ◌*◌, ◌/◌, ◌%◌, ◌^◌, ◌<◌, ◌≤◌, Bool, List, [], ◌++◌, length, ◌==◌, slice_index}
use Rattle.parts.specs.Number.{bytes_of, number_at, with_number}

-- the bytes of a lane for each size: bytes, half words, words and double words
abbrev pub width_of : ℕ → ℕ
width_of size = 2 ^ size

-- Elem[register, e]: the number that lane e holds, unsigned
abbrev pub lane : ℕ → ℕ → List ℕ → ℕ
lane w e register = number_at (e * w) w register

-- lane e of at most eight bytes lies within a register
pub record LaneIn (w e : ℕ) (register : List ℕ) : Type 0 where
  pub narrow : w ≤ 8
  pub inside : e * w + w ≤ length register

-- the register with a number's low bytes in lane e
abbrev pub with_lane : ℕ → ℕ → ℕ → List ℕ → List ℕ
with_lane w e n register = with_number (e * w) w n register

-- bit i of a predicate, counted from bit 0 of its first byte
abbrev pub bit_at : ℕ → List ℕ → ℕ
bit_at i predicate = slice_index predicate (i / 8) / 2 ^ (i % 8) % 2

-- ActivePredicateElement: lane e is active when bit e·w is set
abbrev pub active : ℕ → ℕ → List ℕ → Bool
active w e predicate = bit_at (e * w) predicate == 1

-- a predicate has the bit of lane e, and not more bits than a machine word counts
pub record HasBit (w e : ℕ) (predicate : List ℕ) : Type 0 where
  pub inside : e * w < 8 * length predicate
  pub few : 8 * length predicate < 2 ^ 64

-- n lanes of w bytes side by side, from lane e on: lane i holds the low bytes of f i
abbrev pub from_lanes : ℕ → ℕ → ℕ → (ℕ → ℕ) → List ℕ
from_lanes w e zero f = []
from_lanes w e (suc n) f = bytes_of w (f e) ++ from_lanes w (suc e) n f
