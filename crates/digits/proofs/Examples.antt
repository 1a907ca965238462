-- Decimal numbers, on both sides of where a digit more is needed, up to the greatest of 64 bits, and the sixteen digits, computed.
-- Assumes nothing.
use mathlib.Core.Path.{◌≡◌, refl}
use mathlib.Core.List.{[], ◌∷◌, map}
use Prim.Native.Nat.{◌-◌, ◌^◌}
use Rattle.parts.specs.Text.{bytes}
use Rattle.digits.specs.Digits.{digit_of, digits_in, most_digits, width_within, decimal_width, decimal}

pub example_decimals : map decimal (0 ∷ 9 ∷ 10 ∷ 99 ∷ 100 ∷ 65535 ∷ 65536 ∷ (2 ^ 64 - 1) ∷ [])
    ≡ bytes "0"
    ∷ bytes "9"
    ∷ bytes "10"
    ∷ bytes "99"
    ∷ bytes "100"
    ∷ bytes "65535"
    ∷ bytes "65536"
    ∷ bytes "18446744073709551615"
    ∷ []
unfolding digit_of digits_in width_within decimal_width
example_decimals = refl

-- the greatest number of 64 bits has the most digits
pub example_longest : decimal_width (2 ^ 64 - 1) ≡ most_digits
unfolding width_within decimal_width
example_longest = refl

-- the digit of each value below sixteen, in ASCII: 0 to 9, then a to f
pub example_digits : map digit_of (0 ∷ 1 ∷ 2 ∷ 3 ∷ 4 ∷ 5 ∷ 6 ∷ 7 ∷ 8 ∷ 9 ∷ 10 ∷ 11 ∷ 12 ∷ 13 ∷ 14 ∷ 15 ∷ [])
    ≡ 0x30 ∷ 0x31 ∷ 0x32 ∷ 0x33 ∷ 0x34 ∷ 0x35 ∷ 0x36 ∷ 0x37 ∷ 0x38 ∷ 0x39 ∷ 0x61 ∷ 0x62 ∷ 0x63 ∷ 0x64 ∷ 0x65 ∷ 0x66 ∷ []
unfolding digit_of
example_digits = refl
