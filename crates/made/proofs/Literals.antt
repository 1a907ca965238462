-- The paper's predicates beside the definition: of two bytes, at each size, of every lane, of three lanes and of none, and the longest one.
-- A predicate that is made for wide lanes does not have every narrow lane active.
-- Assumes nothing.
use mathlib.Core.Path.{◌≡◌, refl}
use mathlib.Core.Bool.{true, false}
use mathlib.Core.List.{[], ◌∷◌}
use lib.ListN.{replicate}
use Rattle.lanes.specs.Lane.{width_of, active}
use Rattle.made.specs.Made.{made_byte, made_bytes}

-- every lane of sixteen bytes: 16 bytes, 8 half words, 4 words, 2 double words; then three half words, and no lane at all
pub made_literal : made_bytes 2 0 16 ∷ made_bytes 2 1 8 ∷ made_bytes 2 2 4 ∷ made_bytes 2 3 2 ∷ made_bytes 2 1 3 ∷ made_bytes 2 0 0 ∷ []
    ≡ (0xff ∷ 0xff ∷ [])
    ∷ (0x55 ∷ 0x55 ∷ [])
    ∷ (0x11 ∷ 0x11 ∷ [])
    ∷ (0x01 ∷ 0x01 ∷ [])
    ∷ (0x15 ∷ 0x00 ∷ [])
    ∷ (0x00 ∷ 0x00 ∷ [])
    ∷ []
unfolding made_bytes made_byte
made_literal = refl

-- every word of the longest vector
pub longest_literal : made_bytes 32 2 64 ≡ replicate 32 0x11
unfolding made_bytes made_byte
longest_literal = refl

-- every half word active, and byte 1 not
pub half_words_active : active (width_of 1) 7 (made_bytes 2 1 8) ≡ true
unfolding made_bytes made_byte
half_words_active = refl

pub narrower_inactive : active (width_of 0) 1 (made_bytes 2 1 8) ≡ false
unfolding made_bytes made_byte
narrower_inactive = refl
