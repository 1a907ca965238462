-- How a word reads: the name, one space, and the operands, comma and space between them, a pattern last.
use Rattle.std.specs.Prelude.{◌≡◌, ℕ, zero, suc, Bool, false, cond, List, [], ◌∷◌, ◌++◌, map, eqb, take, length}
use Prim.Native.Char.{code}
use Rattle.parts.specs.Part.{same_bytes}
use Rattle.parts.specs.Text.{bytes}
use Rattle.rows.specs.Table.{name_bytes, line_name, table, row_at, family_of, form_of}
use Rattle.words.specs.Field.{source_digits, governing_digits, second_digits, pattern_digits}
use Rattle.rows.specs.declared.Family.{Family}
use Rattle.words.specs.declared.Fields.{Fields}
use Rattle.operands.specs.declared.Operand.{Operand}
use Rattle.operands.specs.Operands.{operand_text, destination_operand, governing_operand, source_operand, further_pattern}

-- the first six bytes of a text of a row: a name of five letters has its space among them
unfoldable pub key_of : ℕ → List ℕ
key_of row = line_name (row_at row)

-- six bytes that are the first of a text of a row
pub record Key (row : ℕ) (r : List ℕ) : Type 0 where
  pub is : r ≡ key_of row
  pub size : name_bytes ≡ length r

-- bytes up to the first space
abbrev pub up_to_space : List ℕ → List ℕ
up_to_space [] = []
up_to_space (b ∷ l) = cond (eqb b (code " ")) [] (b ∷ up_to_space l)

-- a row's name
unfoldable pub name_of : ℕ → List ℕ
name_of row = up_to_space (key_of row)

-- every row's first six bytes, its key; and the place of the first key that some bytes are, counted from i, past the last where none is
abbrev pub keys : List (List ℕ)
keys = map line_name table

unfoldable pub key_from : ℕ → List (List ℕ) → List ℕ → ℕ
key_from i [] bytes = i
key_from i (k ∷ ks) bytes = cond (same_bytes k bytes) i (key_from (suc i) ks bytes)

-- the row that a text's first six bytes name; the number of rows where they name none
unfoldable pub row_named : List ℕ → ℕ
row_named text = key_from 0 keys (take name_bytes text)

-- an operand before others, where its field has digits
abbrev pub where_in : ℕ → Operand → List Operand → List Operand
where_in zero o os = os
where_in (suc digits) o os = o ∷ os

-- the operands of a family: the destination, the governing predicate, the source and the second source, those that it has fields for; the
-- source has the full width in a wide form
abbrev pub operands_named : Family → Bool → Fields → List Operand
operands_named family wide f =
    destination_operand family f
    ∷ where_in (governing_digits family) (governing_operand family f)
    (where_in (source_digits family) (source_operand family wide f.n f)
    (where_in (second_digits family) (source_operand family false f.m f) []))

-- the operands that follow the first, each with a comma and a space before it, and what stands after the last
abbrev pub following : List Operand → List ℕ → List ℕ
following [] end = end
following (o ∷ os) end = bytes ", " ++ operand_text o ++ following os end

-- operands, comma and space between them, and what stands after the last
abbrev pub listed : List Operand → List ℕ → List ℕ
listed [] end = end
listed (o ∷ os) end = operand_text o ++ following os end

-- the operands of a family, and its pattern after them where it has a field for one
abbrev pub operands_text : Family → Bool → Fields → List ℕ
operands_text family wide f = listed (operands_named family wide f) (further_pattern (pattern_digits family) f.pattern)

-- the text of a word with these fields
unfoldable pub text_of : Fields → List ℕ
text_of f = name_of f.row ++ bytes " " ++ operands_text (family_of f.row) (form_of f.row).parameters.wide f
