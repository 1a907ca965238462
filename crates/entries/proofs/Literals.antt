-- The journal's heading, byte by byte as the papers have it: the mark LNJ, the version in two bytes, and k.
-- Assumes nothing.
use mathlib.Core.Path.{◌≡◌, refl}
use mathlib.Core.List.{[], ◌∷◌}
use Rattle.entries.specs.Layout.{heading}

-- of version 1 at k = 4, and of version 2 at k = 16
pub heading_literal : heading 1 4 ≡ 0x4C ∷ 0x4E ∷ 0x4A ∷ 0x01 ∷ 0x00 ∷ 0x04 ∷ []
heading_literal = refl

pub second_heading_literal : heading 2 16 ≡ 0x4C ∷ 0x4E ∷ 0x4A ∷ 0x02 ∷ 0x00 ∷ 0x10 ∷ []
second_heading_literal = refl
