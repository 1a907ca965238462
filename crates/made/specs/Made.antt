-- The predicate that a word makes: of each lane below a count the one bit that governs it, and no other bit. Bit x is bit x mod 8 of byte x / 8.
use Rattle.std.specs.Prelude.{ℕ, zero, suc, ◌+◌, ◌*◌, ◌/◌, Bool, cond, List, eqb, ltb}
use Rattle.parts.specs.Part.{both}
use Rattle.lanes.specs.Lane.{width_of}
use Rattle.lanes.specs.Sum.{each}

-- whether bit x is made: it stands at e·w for a lane e below the count
abbrev pub is_made : ℕ → ℕ → ℕ → Bool
is_made size count x = both (eqb (x / width_of size * width_of size) x) (ltb (x / width_of size) count)

-- a bit as a number: one where it is set
abbrev pub bit_of : Bool → ℕ
bit_of is_set = cond is_set 1 0

-- the number of n bits from bit x on, the lowest first
abbrev pub bits_from : (ℕ → Bool) → ℕ → ℕ → ℕ
bits_from is_set x zero = 0
bits_from is_set x (suc n) = bit_of (is_set x) + 2 * bits_from is_set (suc x) n

-- byte j of the predicate: its bits 8·j to 8·j + 7
unfoldable pub made_byte : ℕ → ℕ → ℕ → ℕ
made_byte size count j = bits_from (is_made size count) (8 * j) 8

-- the predicate's n bytes, for a size of lanes and the count of those that it makes active
unfoldable pub made_bytes : ℕ → ℕ → ℕ → List ℕ
made_bytes n size count = each (made_byte size count) 0 n
