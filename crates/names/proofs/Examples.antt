-- The texts of document 01's session and of M12, and one of each form beside them, computed. A word that is refused has none.
-- Assumes nothing.
use mathlib.Core.Path.{◌≡◌, refl}
use mathlib.Core.List.{[], ◌∷◌, map}
use Rattle.parts.specs.Text.{bytes}
use Rattle.rows.specs.Digits.{digits_and}
use Rattle.rows.specs.Table.{row_at, row_of, matches, place_from}
use Rattle.words.specs.Decode.{decoded}
use Rattle.digits.specs.Digits.{digit_of, digits_in, width_within, decimal_width}
use Rattle.patterns.specs.Lanes.{pattern_kind}
use Rattle.patterns.specs.Text.{pattern_text}
use Rattle.operands.specs.Operands.{letter_of}
use Rattle.names.specs.Text.{key_of, name_of, text_of}
use Rattle.names.specs.Named.{text_of_word}

pub example_texts : map text_of_word
    (0x04002020
    ∷ 0x2E303822
    ∷ 0x45410023
    ∷ 0x04C02020
    ∷ 0x2EB03800
    ∷ 0x45000000
    ∷ 0x6EB03800
    ∷ 0x04053FFF
    ∷ 0x4445BFFF
    ∷ 0x45421020
    ∷ 0x45424020
    ∷ 0x45DF5FFF
    ∷ 0x2558E123
    ∷ 0x2518E3E0
    ∷ 0x25D8E1CF
    ∷ 0x2598E3A7
    ∷ 0x2518E403
    ∷ 0x2518E133
    ∷ 0x2558E403
    ∷ [])
    ≡ bytes "saddv d0, p0, z1.b"
    ∷ bytes "uaddlv h2, v1.8b"
    ∷ bytes "saddlb z3.h, z1.b, z1.b"
    ∷ []
    ∷ []
    ∷ []
    ∷ bytes "uaddlv d0, v0.4s"
    ∷ bytes "addqv v31.16b, p7, z31.b"
    ∷ bytes "uadalp z31.h, p7/m, z31.b"
    ∷ bytes "ssublb z0.h, z1.b, z2.b"
    ∷ bytes "saddwb z0.h, z1.h, z2.b"
    ∷ bytes "usubwt z31.d, z31.d, z31.s"
    ∷ bytes "ptrue p3.h, vl16"
    ∷ bytes "ptrue p0.b, all"
    ∷ bytes "ptrue p15.d, #14"
    ∷ bytes "ptrue p7.s, mul4"
    ∷ bytes "pfalse p3.b"
    ∷ []
    ∷ []
    ∷ []
unfolding decoded row_at row_of place_from matches digits_and text_of key_of name_of digit_of digits_in width_within decimal_width letter_of pattern_text pattern_kind
example_texts = refl
