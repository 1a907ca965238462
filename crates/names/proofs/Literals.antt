-- Naming by the paper's numbers: a text needs an output of 32 bytes, which is tested before the word; the texts of 04002020 and of 2558E123 byte by
-- byte in ASCII; and a text of 26 bytes, which is the longest (`word_length`).
-- Assumes nothing.
use Prim.Native.Nat.{ℕ}
use mathlib.Core.Path.{◌≡◌, refl}
use mathlib.Core.List.{[], ◌∷◌, map}
use lib.ListN.{length}
use Rattle.facts.specs.Facts.{facts_of}
use Rattle.rows.specs.Digits.{digits_and}
use Rattle.rows.specs.Table.{row_at, row_of, matches, place_from}
use Rattle.words.specs.Decode.{decoded}
use Rattle.cores.specs.Need.{need_of}
use Rattle.cores.specs.Core.{decoded_on}
use Rattle.digits.specs.Digits.{digit_of, digits_in, width_within, decimal_width}
use Rattle.patterns.specs.Lanes.{pattern_kind}
use Rattle.patterns.specs.Text.{pattern_text}
use Rattle.operands.specs.Operands.{letter_of}
use Rattle.names.specs.Text.{key_of, name_of, text_of}
use Rattle.names.specs.Named.{most_text, text_of_word, name_refused}

-- an accepted word, one that is undefined and one that is unknown, with all facts, into 31 bytes and into 32
pub out_literal : map (λ (word : ℕ). name_refused 31 word (facts_of 31)) (0x04002020 ∷ 0x04C02020 ∷ 0xD65F03C0 ∷ []) ≡ 11 ∷ 11 ∷ 11 ∷ []
unfolding facts_of decoded_on decoded row_at row_of place_from matches digits_and need_of
out_literal = refl

pub fits_literal : map (λ (word : ℕ). name_refused 32 word (facts_of 31)) (0x04002020 ∷ 0x04C02020 ∷ 0xD65F03C0 ∷ []) ≡ 0 ∷ 8 ∷ 7 ∷ []
unfolding facts_of decoded_on decoded row_at row_of place_from matches digits_and need_of
fits_literal = refl

-- saddv d0, p0, z1.b
pub text_literal : text_of_word 0x04002020
    ≡ 0x73 ∷ 0x61 ∷ 0x64 ∷ 0x64 ∷ 0x76 ∷ 0x20 ∷ 0x64 ∷ 0x30 ∷ 0x2C ∷ 0x20 ∷ 0x70 ∷ 0x30 ∷ 0x2C ∷ 0x20 ∷ 0x7A ∷ 0x31 ∷ 0x2E ∷ 0x62 ∷ []
unfolding decoded row_at row_of place_from matches digits_and text_of key_of name_of digit_of digits_in width_within decimal_width letter_of
text_literal = refl

-- ptrue p3.h, vl16
pub pattern_literal : text_of_word 0x2558E123
    ≡ 0x70 ∷ 0x74 ∷ 0x72 ∷ 0x75 ∷ 0x65 ∷ 0x20 ∷ 0x70 ∷ 0x33 ∷ 0x2E ∷ 0x68 ∷ 0x2C ∷ 0x20 ∷ 0x76 ∷ 0x6C ∷ 0x31 ∷ 0x36 ∷ []
unfolding decoded row_at row_of place_from matches digits_and text_of key_of name_of digit_of digits_in width_within decimal_width letter_of pattern_text pattern_kind
pattern_literal = refl

-- usubwt z31.d, z31.d, z31.s
pub longest_literal : length (text_of_word 0x45DF5FFF) ≡ 26
unfolding decoded row_at row_of place_from matches digits_and text_of key_of name_of digit_of digits_in width_within decimal_width letter_of
longest_literal = refl

pub most_literal : most_text ≡ 26
most_literal = refl
