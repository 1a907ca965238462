-- Numbers as bytes, little-endian: the first byte is the least significant.
use Rattle.std.specs.Prelude.{ℕ, zero, suc, ◌+◌, ◌*◌, ◌/◌, ◌%◌, ◌<◌, List, [], ◌∷◌, get_or}
use Rattle.parts.specs.Part.{part, with_part}

-- the number that some bytes make
abbrev pub number : List ℕ → ℕ
number [] = 0
number (b ∷ bs) = b + 256 * number bs

-- the low w bytes of a number
abbrev pub bytes_of : ℕ → ℕ → List ℕ
bytes_of zero n = []
bytes_of (suc w) n = n % 256 ∷ bytes_of w (n / 256)

-- the binary digits of w bytes
abbrev pub bits_of : ℕ → ℕ
bits_of w = 8 * w

-- the number that stands in w bytes from a place on
abbrev pub number_at : ℕ → ℕ → List ℕ → ℕ
number_at at w l = number (part at w l)

-- a list with a number's low bytes in the w from a place on
abbrev pub with_number : ℕ → ℕ → ℕ → List ℕ → List ℕ
with_number at w n l = with_part at w (bytes_of w n) l

-- every element is a byte
abbrev pub AreBytes : List ℕ → Type 0
AreBytes l = (i : ℕ) → get_or l i 0 < 256
