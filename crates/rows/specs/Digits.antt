-- A word's binary digits: AND digit by digit, and the number that some neighbouring digits make.
use Rattle.std.specs.Prelude.{ℕ, zero, suc, ◌+◌, ◌*◌, ◌/◌, ◌%◌, ◌^◌, min}

-- a AND b over the low n binary digits; it computes, where the logic's `bit_and` does not at the size of a word
unfoldable pub digits_and : ℕ → ℕ → ℕ → ℕ
digits_and zero a b = 0
digits_and (suc n) a b = digits_and n (a / 2) (b / 2) * 2 + min (a % 2) (b % 2)

-- the binary digits of a word
abbrev pub word_digits : ℕ
word_digits = 32

-- the number that `count` digits of a word make, from digit `low` up
abbrev pub field : ℕ → ℕ → ℕ → ℕ
field low count word = word / 2 ^ low % 2 ^ count
