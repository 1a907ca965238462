-- What the assembler reads in a text, whatever its bytes are: the row by its first six bytes, the size by its last or by the letter before a
-- pattern, the numbers after the first letter of each operand, and the pattern after the second space. Of a text of an
-- accepted word these make the word; of any other text nothing is promised of them.
use Rattle.std.specs.Prelude.{ℕ, zero, suc, ◌+◌, ◌%◌, ◌^◌, List, length}
use Rattle.rows.specs.Digits.{word_digits}
use Rattle.rows.specs.Table.{family_of}
use Rattle.words.specs.Field.{size_digits, register_digits, predicate_digits, naming_digits, pattern_digits}
use Rattle.words.specs.Encode.{encoded}
use Rattle.rows.specs.declared.Family.{Family}
use Rattle.rows.specs.declared.Family.TheVariants.{Low, Wide, Made}
use Rattle.rows.specs.declared.LowFamily.TheVariants.{Reduction, Segment, Long}
use Rattle.rows.specs.declared.WideFamily.TheVariants.{Pairwise, Widening}
use Rattle.words.specs.declared.Fields.{Fields}
use Rattle.patterns.specs.Text.{pattern_named}
use Rattle.scans.specs.Scanned.{past_space, number_in, size_in, q_in}
use Rattle.names.specs.Text.{row_named}

-- the operands' numbers
abbrev pub first_in : List ℕ → ℕ
first_in text = number_in (past_space text)

abbrev pub second_in : List ℕ → ℕ
second_in text = number_in (past_space (past_space text))

abbrev pub third_in : List ℕ → ℕ
third_in text = number_in (past_space (past_space (past_space text)))

-- the pattern after the second space, and the size of the letter before the comma that it follows
abbrev pub pattern_in : List ℕ → ℕ
pattern_in text = pattern_named (past_space (past_space text))

abbrev pub size_before : List ℕ → ℕ
size_before text = size_in text (length (past_space (past_space text)) + 3)

-- fields of a word without a pattern
abbrev pub fields : ℕ → ℕ → ℕ → ℕ → ℕ → ℕ → ℕ → Fields
fields row size d g n m q = record { row = row; size = size; n = n; d = d; g = g; m = m; q = q; pattern = 0 }

-- the fields by the family, of the size of the last letter, the numbers of three operands and Q; the last letter of a family that writes every
-- lane is of half the width, and one that makes a predicate has a destination alone
abbrev pub by_family : ℕ → Family → ℕ → ℕ → ℕ → ℕ → ℕ → Fields
by_family row (Low Reduction) size a b c q = fields row size a b c 0 0
by_family row (Low Segment) size a b c q = fields row size a b c 0 0
by_family row (Low Long) size a b c q = fields row size a 0 b 0 q
by_family row (Wide Pairwise) size a b c q = fields row (size + 1) a b c 0 0
by_family row (Wide Widening) size a b c q = fields row (size + 1) a 0 b c 0
by_family row (Made made) size a b c q = fields row 0 a 0 0 0 0

-- fields with a size and a pattern, where the pattern has digits
abbrev pub with_pattern : Fields → ℕ → ℕ → ℕ → Fields
with_pattern f zero size pattern = f
with_pattern f (suc digits) size pattern =
    record { row = f.row; size = size; n = f.n; d = f.d; g = f.g; m = f.m; q = f.q; pattern = pattern }

-- the fields of a text of a row
abbrev pub read_as : ℕ → Family → List ℕ → Fields
read_as row family text =
    with_pattern (by_family row family (size_in text 1) (first_in text) (second_in text) (third_in text) (q_in (size_in text 1) text))
    (pattern_digits family) (size_before text) (pattern_in text)

abbrev pub fields_from : List ℕ → Fields
fields_from text = read_as (row_named text) (family_of (row_named text)) text

-- a word with these fields, of each as many digits as its place has
abbrev pub limited : Fields → Fields
limited f =
    record {
      row = f.row;
      size = f.size % 2 ^ size_digits;
      n = f.n % 2 ^ register_digits;
      d = f.d % 2 ^ register_digits;
      g = f.g % 2 ^ predicate_digits;
      m = f.m % 2 ^ register_digits;
      q = f.q % 2;
      pattern = f.pattern % 2 ^ naming_digits;
    }

abbrev pub word_of : Fields → ℕ
word_of f = encoded (limited f) % 2 ^ word_digits
