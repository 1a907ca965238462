-- What a line is made of, byte by byte in ASCII: the sixteen digits of hex in lower case, the highest byte first; the line of a refused step; and the line of
-- what is no session.
-- Assumes nothing.
use mathlib.Core.Path.{◌≡◌, refl}
use mathlib.Core.List.{[], ◌∷◌}
use Rattle.digits.specs.Digits.{digit_of, digits_in, width_within, decimal_width}
use Rattle.lines.specs.Line.{hex_of, refused_line, session_line}

-- fedcba9876543210
pub hex_literal : hex_of (0x10 ∷ 0x32 ∷ 0x54 ∷ 0x76 ∷ 0x98 ∷ 0xBA ∷ 0xDC ∷ 0xFE ∷ [])
    ≡ 0x66 ∷ 0x65 ∷ 0x64 ∷ 0x63 ∷ 0x62 ∷ 0x61 ∷ 0x39 ∷ 0x38 ∷ 0x37 ∷ 0x36 ∷ 0x35 ∷ 0x34 ∷ 0x33 ∷ 0x32 ∷ 0x31 ∷ 0x30 ∷ []
unfolding hex_of digit_of digits_in
hex_literal = refl

-- 3 8 04c02020, the last line of the paper's session
pub refused_line_literal : refused_line 3 8 0x04C02020 ≡ 0x33 ∷ 0x20 ∷ 0x38 ∷ 0x20 ∷ 0x30 ∷ 0x34 ∷ 0x63 ∷ 0x30 ∷ 0x32 ∷ 0x30 ∷ 0x32 ∷ 0x30 ∷ 0x0A ∷ []
unfolding digit_of digits_in width_within decimal_width
refused_line_literal = refl

-- 14
pub session_line_literal : session_line ≡ 0x31 ∷ 0x34 ∷ 0x0A ∷ []
unfolding session_line digit_of digits_in width_within decimal_width
session_line_literal = refl
