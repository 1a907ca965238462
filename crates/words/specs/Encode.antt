-- The word that fields make, and the fields that some word has.
use Rattle.std.specs.Prelude.{◌≡◌, true, ℕ, ◌+◌, ◌*◌, ◌^◌, ◌<◌}
use Rattle.rows.specs.Table.{rows, row_value, form_of, family_of}
use Rattle.words.specs.Sizes.{allows}
use Rattle.words.specs.Field.{size_place, source_place, destination_place, governing_place, second_place, q_place, pattern_place}
use Rattle.words.specs.Field.{size_digits_in, source_digits, destination_digits, governing_digits, second_digits, q_digits, pattern_digits}
use Rattle.words.specs.declared.Fields.{Fields}

-- the word that fields make: the row's value plus each field at its place
unfoldable pub encoded : Fields → ℕ
encoded f =
    row_value f.row
    + (f.size * 2 ^ size_place
    + (f.n * 2 ^ source_place
    + (f.d * 2 ^ destination_place
    + (f.g * 2 ^ governing_place + (f.m * 2 ^ second_place + (f.q * 2 ^ q_place + f.pattern * 2 ^ pattern_place))))))

-- fields that some word has: a row of the table, numbers of as many digits as each field has there, and a size that the row allows
pub record InRange (f : Fields) : Type 0 where
  pub row : f.row < rows
  pub size : f.size < 2 ^ size_digits_in (family_of f.row)
  pub n : f.n < 2 ^ source_digits (family_of f.row)
  pub d : f.d < 2 ^ destination_digits (family_of f.row)
  pub g : f.g < 2 ^ governing_digits (family_of f.row)
  pub m : f.m < 2 ^ second_digits (family_of f.row)
  pub q : f.q < 2 ^ q_digits (family_of f.row)
  pub pattern : f.pattern < 2 ^ pattern_digits (family_of f.row)
  pub allowed : allows (form_of f.row) f.q f.size ≡ true
