-- Numbers in digits: the last digits in a base, and decimal without leading zeros.
use Rattle.std.specs.Prelude.{ℕ, zero, suc, ◌/◌, ◌%◌, cond, List, [], ◌∷◌, ◌++◌, ltb, get_or}
use Rattle.parts.specs.Text.{bytes}

-- the digit of each value
abbrev pub digits : List ℕ
digits = bytes "0123456789abcdef"

unfoldable pub digit_of : ℕ → ℕ
digit_of d = get_or digits d 0

-- the last count digits of a number in a base, the highest first
unfoldable pub digits_in : ℕ → ℕ → ℕ → List ℕ
digits_in base zero n = []
digits_in base (suc count) n = digits_in base count (n / base) ++ digit_of (n % base) ∷ []

-- the decimal digits of the greatest number of 64 bits
abbrev pub most_digits : ℕ
most_digits = 20

-- how many decimal digits a number has, counted up to so many
unfoldable pub width_within : ℕ → ℕ → ℕ
width_within zero n = 0
width_within (suc more) n = suc (cond (ltb n 10) 0 (width_within more (n / 10)))

-- how many decimal digits a number of 64 bits has
unfoldable pub decimal_width : ℕ → ℕ
decimal_width n = width_within most_digits n

-- a number of 64 bits in decimal, without leading zeros
abbrev pub decimal : ℕ → List ℕ
decimal n = digits_in 10 (decimal_width n) n
