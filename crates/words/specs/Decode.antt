-- What a word decodes to: UNKNOWN where no row matches, UNDEFINED where the row's size is not allowed, else its fields.
use Rattle.std.specs.Prelude.{Result, Ok, Err, ◌≡◌, ℕ, ◌<◌, Bool, true, false, List, [], ◌∷◌, eqb, ltb}
use Rattle.machine.specs.declared.refusal.Refusal.{Refusal}
use Rattle.machine.specs.declared.refusal.Refusal.TheVariants as refusal
use Rattle.machine.specs.Refusal.{DONE, UNKNOWN, UNDEFINED, Test, test}
use Rattle.rows.specs.Digits.{field}
use Rattle.rows.specs.Table.{rows, row_at, row_of, form_of, family_of, matches}
use Rattle.words.specs.Sizes.{allows}
use Rattle.words.specs.Field.{size_place, source_place, destination_place, governing_place, second_place, q_place, pattern_place}
use Rattle.words.specs.Field.{size_digits_in, source_digits, destination_digits, governing_digits, second_digits, q_digits, pattern_digits}
use Rattle.words.specs.declared.Fields.{Fields}

-- what a word is: no row's, of a row that does not allow its size, or accepted with its fields
pub data Decoded : Type 0 where
  Unknown : Decoded
  Undefined : Decoded
  Word : Fields → Decoded

-- the fields of a word of the row at a place; a field that the row does not have is 0
abbrev pub fields_at : ℕ → ℕ → Fields
fields_at i word =
    record {
      row = i;
      size = field size_place (size_digits_in (family_of i)) word;
      n = field source_place (source_digits (family_of i)) word;
      d = field destination_place (destination_digits (family_of i)) word;
      g = field governing_place (governing_digits (family_of i)) word;
      m = field second_place (second_digits (family_of i)) word;
      q = field q_place (q_digits (family_of i)) word;
      pattern = field pattern_place (pattern_digits (family_of i)) word;
    }

abbrev pub pick_decoded : Bool → Decoded → Decoded → Decoded
pick_decoded true a b = a
pick_decoded false a b = b

-- what fields decode to: themselves where their row allows their size, else UNDEFINED
abbrev pub judged : Fields → Decoded
judged f = pick_decoded (allows (form_of f.row) f.q f.size) (Word f) Undefined

-- what a word decodes to
unfoldable pub decoded : ℕ → Decoded
decoded word = pick_decoded (ltb (row_of word) rows) (judged (fields_at (row_of word) word)) Unknown

-- the paper's number of what a word decodes to
abbrev pub number_of : Decoded → ℕ
number_of Unknown = UNKNOWN
number_of Undefined = UNDEFINED
number_of (Word f) = DONE

-- what decoding comes to: the fields, or the refusal
abbrev pub decoding : Decoded → Result Fields Refusal
decoding Unknown = Err refusal.Unknown
decoding Undefined = Err refusal.Undefined
decoding (Word f) = Ok f

-- the tests of a word: no row matches it; its row does not allow its size
abbrev pub word_tests : Decoded → List Test
word_tests w = test UNKNOWN (eqb (number_of w) UNKNOWN) ∷ test UNDEFINED (eqb (number_of w) UNDEFINED) ∷ []

-- the fields of what a word decodes to, which are zeros where it is refused
abbrev pub no_fields : Fields
no_fields = record { row = 0; size = 0; n = 0; d = 0; g = 0; m = 0; q = 0; pattern = 0 }

abbrev pub fields_of : Decoded → Fields
fields_of Unknown = no_fields
fields_of Undefined = no_fields
fields_of (Word f) = f

-- a row matches a word and its size is allowed, or not, as t says
pub record RowWith (word : ℕ) (t : Bool) : Type 0 where
  pub row : ℕ
  pub known : row < rows
  pub hit : matches (row_at row) word ≡ true
  pub sized : allows (form_of row) (fields_at row word).q (fields_at row word).size ≡ t
