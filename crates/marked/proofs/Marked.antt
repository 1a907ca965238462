-- M1 to M12: of every marked case the definitions give what the paper says, computed.
-- Assumes nothing.
use mathlib.Core.Path.{◌≡◌, refl}
use mathlib.Core.List.{map}
use Rattle.rows.specs.Digits.{digits_and}
use Rattle.rows.specs.Table.{row_at, matches, place_from, row_of}
use Rattle.words.specs.Decode.{decoded}
use Rattle.digits.specs.Digits.{digit_of, digits_in, width_within, decimal_width}
use Rattle.operands.specs.Operands.{letter_of}
use Rattle.names.specs.Text.{key_of, name_of, text_of}
use Rattle.meaning.specs.Execute.{target_of, source_of, governing_of, effect_of}
use Rattle.marked.specs.Cases.{cases, outcome, expected}

pub marked_cases : map outcome cases ≡ map expected cases
unfolding digits_and row_at matches place_from row_of decoded digit_of digits_in width_within decimal_width key_of name_of letter_of text_of target_of source_of governing_of effect_of
marked_cases = refl
