-- The table: a line for each word with its name, mask, value, operation and elements; its form; and the row that a word is of.
use Rattle.std.specs.Prelude.{ℕ, suc, Bool, true, false, cond, List, [], ◌∷◌, ◌++◌, eqb, get_or, take}
use Prim.Native.String.{String}
use Rattle.parts.specs.Text.{bytes}
use Rattle.rows.specs.Digits.{digits_and, word_digits}
use Rattle.rows.specs.declared.Row.{Row}
use Rattle.rows.specs.declared.Form.{Form}
use Rattle.rows.specs.declared.Operation.{Operation}
use Rattle.rows.specs.declared.Operation.TheVariants.{Reduce, Segments, Across, Pairs, AddLong, SubLong, AddWide, SubWide, Pattern, Clear}
use Rattle.rows.specs.declared.Family.{Family}
use Rattle.rows.specs.declared.Family.TheVariants.{Low, Wide, Made}
use Rattle.rows.specs.declared.LowFamily.TheVariants.{Reduction, Segment, Long}
use Rattle.rows.specs.declared.WideFamily.TheVariants.{Pairwise, Widening}
use Rattle.rows.specs.declared.MadeFamily.TheVariants.{Patterned, Cleared}

-- a name as the table has it: six bytes, with a space where it has five letters
abbrev pub name_bytes : ℕ
name_bytes = 6

abbrev pub spaced : List ℕ → List ℕ
spaced name = take name_bytes (name ++ bytes " ")

-- a line of the table: name, mask, value, operation, whether its elements are signed, and whether they are the odd ones
abbrev pub row : String → ℕ → ℕ → Operation → Bool → Bool → Row
row name mask value operation signed top = (spaced (bytes name), mask, value, operation, signed, top)

-- what stands in a line, by name
abbrev pub line_name : Row → List ℕ
line_name line = line.0

abbrev pub line_mask : Row → ℕ
line_mask line = line.1

abbrev pub line_value : Row → ℕ
line_value line = line.2

abbrev pub line_operation : Row → Operation
line_operation line = line.3

abbrev pub line_signed : Row → Bool
line_signed line = line.4

abbrev pub line_top : Row → Bool
line_top line = line.5

abbrev pub table : List Row
table =
    row "saddv" 0xFF3FE000 0x04002000 Reduce true false
    ∷ row "uaddv" 0xFF3FE000 0x04012000 Reduce false false
    ∷ row "addqv" 0xFF3FE000 0x04052000 Segments false false
    ∷ row "saddlv" 0xBF3FFC00 0x0E303800 Across true false
    ∷ row "uaddlv" 0xBF3FFC00 0x2E303800 Across false false
    ∷ row "sadalp" 0xFF3FE000 0x4404A000 Pairs true false
    ∷ row "uadalp" 0xFF3FE000 0x4405A000 Pairs false false
    ∷ row "saddlb" 0xFF20FC00 0x45000000 AddLong true false
    ∷ row "saddlt" 0xFF20FC00 0x45000400 AddLong true true
    ∷ row "uaddlb" 0xFF20FC00 0x45000800 AddLong false false
    ∷ row "uaddlt" 0xFF20FC00 0x45000C00 AddLong false true
    ∷ row "ssublb" 0xFF20FC00 0x45001000 SubLong true false
    ∷ row "ssublt" 0xFF20FC00 0x45001400 SubLong true true
    ∷ row "usublb" 0xFF20FC00 0x45001800 SubLong false false
    ∷ row "usublt" 0xFF20FC00 0x45001C00 SubLong false true
    ∷ row "saddwb" 0xFF20FC00 0x45004000 AddWide true false
    ∷ row "saddwt" 0xFF20FC00 0x45004400 AddWide true true
    ∷ row "uaddwb" 0xFF20FC00 0x45004800 AddWide false false
    ∷ row "uaddwt" 0xFF20FC00 0x45004C00 AddWide false true
    ∷ row "ssubwb" 0xFF20FC00 0x45005000 SubWide true false
    ∷ row "ssubwt" 0xFF20FC00 0x45005400 SubWide true true
    ∷ row "usubwb" 0xFF20FC00 0x45005800 SubWide false false
    ∷ row "usubwt" 0xFF20FC00 0x45005C00 SubWide false true
    ∷ row "ptrue" 0xFF3FFC10 0x2518E000 Pattern false false
    ∷ row "pfalse" 0xFFFFFFF0 0x2518E400 Clear false false
    ∷ []

-- the number of rows, which is also the place past the last
abbrev pub rows : ℕ
rows = 25

-- what stands past the last row
abbrev pub no_row : Row
no_row = row "      " 0 0 Segments false false

-- the row at a place, its mask and its value
unfoldable pub row_at : ℕ → Row
row_at i = get_or table i no_row

abbrev pub row_mask : ℕ → ℕ
row_mask i = line_mask (row_at i)

abbrev pub row_value : ℕ → ℕ
row_value i = line_value (row_at i)

-- the form of a family, by whether its first source has the full width, whether its second source is subtracted, and its elements
abbrev pub form_with : Family → Bool → Bool → Bool → Bool → Form
form_with family wide subtract signed top =
    record { family = family; parameters = record { signed = signed; top = top; wide = wide; subtract = subtract } }

-- the form of an operation over elements
abbrev pub form_for : Operation → Bool → Bool → Form
form_for Reduce = form_with (Low Reduction) false false
form_for Segments = form_with (Low Segment) false false
form_for Across = form_with (Low Long) false false
form_for Pairs = form_with (Wide Pairwise) false false
form_for AddLong = form_with (Wide Widening) false false
form_for SubLong = form_with (Wide Widening) false true
form_for AddWide = form_with (Wide Widening) true false
form_for SubWide = form_with (Wide Widening) true true
form_for Pattern = form_with (Made Patterned) false false
form_for Clear = form_with (Made Cleared) false false

-- the form of a line; of the row at a place, and its family
abbrev pub line_form : Row → Form
line_form line = form_for (line_operation line) (line_signed line) (line_top line)

abbrev pub form_of : ℕ → Form
form_of i = line_form (row_at i)

abbrev pub family_of : ℕ → Family
family_of i = (form_of i).family

-- whether a word is of a row: word AND mask = value
unfoldable pub matches : Row → ℕ → Bool
matches line word = eqb (digits_and word_digits word (line_mask line)) (line_value line)

-- the place of the first of some rows that matches a word, counted from i; past the last where none does
unfoldable pub place_from : ℕ → List Row → ℕ → ℕ
place_from i [] word = i
place_from i (r ∷ rs) word = cond (matches r word) i (place_from (suc i) rs word)

-- the place of the row that matches a word; `rows` where none does
unfoldable pub row_of : ℕ → ℕ
row_of word = place_from 0 table word
