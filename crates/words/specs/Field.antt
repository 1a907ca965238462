-- The fields of a word: the lowest digit of each, and how many digits it has. A field of no digits is 0.
use Rattle.std.specs.Prelude.{◌≡◌, ℕ, ◌<◌}
use Rattle.rows.specs.Digits.{word_digits}
use Rattle.rows.specs.declared.Family.{Family}
use Rattle.rows.specs.declared.Family.TheVariants.{Low, Wide, Made}
use Rattle.rows.specs.declared.LowFamily.TheVariants.{Reduction, Segment, Long}
use Rattle.rows.specs.declared.WideFamily.TheVariants.{Pairwise, Widening}
use Rattle.rows.specs.declared.MadeFamily.TheVariants.{Patterned, Cleared}

-- the lowest digit of each field: size, source, destination, governing predicate, second source, Q, pattern
abbrev pub size_place : ℕ
size_place = 22

abbrev pub source_place : ℕ
source_place = 5

abbrev pub destination_place : ℕ
destination_place = 0

abbrev pub governing_place : ℕ
governing_place = 10

abbrev pub second_place : ℕ
second_place = 16

abbrev pub q_place : ℕ
q_place = 30

abbrev pub pattern_place : ℕ
pattern_place = 5

-- how many digits a size has, a vector register's number, a predicate register's, a governing predicate's, and a pattern
abbrev pub size_digits : ℕ
size_digits = 2

abbrev pub register_digits : ℕ
register_digits = 5

abbrev pub made_digits : ℕ
made_digits = 4

abbrev pub predicate_digits : ℕ
predicate_digits = 3

abbrev pub naming_digits : ℕ
naming_digits = 5

-- how many digits the size, the source, the destination, the governing predicate, the second source, Q and the pattern have in the words of a family
abbrev pub size_digits_in : Family → ℕ
size_digits_in (Low low) = size_digits
size_digits_in (Wide wide) = size_digits
size_digits_in (Made Patterned) = size_digits
size_digits_in (Made Cleared) = 0

abbrev pub source_digits : Family → ℕ
source_digits (Low low) = register_digits
source_digits (Wide wide) = register_digits
source_digits (Made made) = 0

abbrev pub destination_digits : Family → ℕ
destination_digits (Low low) = register_digits
destination_digits (Wide wide) = register_digits
destination_digits (Made made) = made_digits

abbrev pub governing_digits : Family → ℕ
governing_digits (Low Reduction) = predicate_digits
governing_digits (Low Segment) = predicate_digits
governing_digits (Low Long) = 0
governing_digits (Wide Pairwise) = predicate_digits
governing_digits (Wide Widening) = 0
governing_digits (Made made) = 0

abbrev pub second_digits : Family → ℕ
second_digits (Low low) = 0
second_digits (Wide Pairwise) = 0
second_digits (Wide Widening) = register_digits
second_digits (Made made) = 0

abbrev pub q_digits : Family → ℕ
q_digits (Low Reduction) = 0
q_digits (Low Segment) = 0
q_digits (Low Long) = 1
q_digits (Wide wide) = 0
q_digits (Made made) = 0

abbrev pub pattern_digits : Family → ℕ
pattern_digits (Low low) = 0
pattern_digits (Wide wide) = 0
pattern_digits (Made Patterned) = naming_digits
pattern_digits (Made Cleared) = 0

-- a count r of digits is n, and fewer than a word has
pub record Counted (n r : ℕ) : Type 0 where
  pub is : r ≡ n
  pub small : r < word_digits
