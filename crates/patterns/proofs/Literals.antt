-- The paper's table of patterns, written out and computed: how many lanes each of the thirty-two names of as many as a vector has, for every lane
-- count that a vector has and for three that are no power of two; the text of each, and texts that are of none.
-- Assumes nothing.
use Prim.Native.Nat.{ℕ, zero, suc}
use mathlib.Core.Path.{◌≡◌, refl}
use mathlib.Core.List.{List, [], ◌∷◌, ◌++◌, map}
use lib.ListN.{replicate}
use Rattle.parts.specs.Text.{bytes}
use Rattle.digits.specs.Digits.{digit_of, digits_in, width_within, decimal_width}
use Rattle.patterns.specs.Lanes.{doubled_within, power_within, multiple_within, fixed_within, pattern_kind, pattern_lanes}
use Rattle.patterns.specs.Text.{patterns, pattern_text, named_from, pattern_named}

-- the numbers from one on, so many of them
abbrev up_from : ℕ → ℕ → List ℕ
up_from zero n = []
up_from (suc more) n = n ∷ up_from more (suc n)

-- the lanes of every pattern at a lane count
abbrev lanes_at : ℕ → List ℕ
lanes_at count = map (λ pattern. pattern_lanes pattern count) (up_from patterns 0)

-- a line of the table: the largest power of two, 1 to 8, the five from 16 on, and then, past the fifteen that name none, multiples and all
abbrev line : ℕ → List ℕ → List ℕ → List ℕ → List ℕ
line power small large last = power ∷ small ++ large ++ replicate 15 0 ++ last

abbrev eight : List ℕ
eight = 1 ∷ 2 ∷ 3 ∷ 4 ∷ 5 ∷ 6 ∷ 7 ∷ 8 ∷ []

pub lanes_literal : map lanes_at (2 ∷ 4 ∷ 8 ∷ 16 ∷ 32 ∷ 64 ∷ 128 ∷ 256 ∷ 7 ∷ 12 ∷ 100 ∷ [])
    ≡ line 2 (1 ∷ 2 ∷ 0 ∷ 0 ∷ 0 ∷ 0 ∷ 0 ∷ 0 ∷ []) (0 ∷ 0 ∷ 0 ∷ 0 ∷ 0 ∷ []) (0 ∷ 0 ∷ 2 ∷ [])
    ∷ line 4 (1 ∷ 2 ∷ 3 ∷ 4 ∷ 0 ∷ 0 ∷ 0 ∷ 0 ∷ []) (0 ∷ 0 ∷ 0 ∷ 0 ∷ 0 ∷ []) (4 ∷ 3 ∷ 4 ∷ [])
    ∷ line 8 eight (0 ∷ 0 ∷ 0 ∷ 0 ∷ 0 ∷ []) (8 ∷ 6 ∷ 8 ∷ [])
    ∷ line 16 eight (16 ∷ 0 ∷ 0 ∷ 0 ∷ 0 ∷ []) (16 ∷ 15 ∷ 16 ∷ [])
    ∷ line 32 eight (16 ∷ 32 ∷ 0 ∷ 0 ∷ 0 ∷ []) (32 ∷ 30 ∷ 32 ∷ [])
    ∷ line 64 eight (16 ∷ 32 ∷ 64 ∷ 0 ∷ 0 ∷ []) (64 ∷ 63 ∷ 64 ∷ [])
    ∷ line 128 eight (16 ∷ 32 ∷ 64 ∷ 128 ∷ 0 ∷ []) (128 ∷ 126 ∷ 128 ∷ [])
    ∷ line 256 eight (16 ∷ 32 ∷ 64 ∷ 128 ∷ 256 ∷ []) (256 ∷ 255 ∷ 256 ∷ [])
    ∷ line 4 (1 ∷ 2 ∷ 3 ∷ 4 ∷ 5 ∷ 6 ∷ 7 ∷ 0 ∷ []) (0 ∷ 0 ∷ 0 ∷ 0 ∷ 0 ∷ []) (4 ∷ 6 ∷ 7 ∷ [])
    ∷ line 8 eight (0 ∷ 0 ∷ 0 ∷ 0 ∷ 0 ∷ []) (12 ∷ 12 ∷ 12 ∷ [])
    ∷ line 64 eight (16 ∷ 32 ∷ 64 ∷ 0 ∷ 0 ∷ []) (100 ∷ 99 ∷ 100 ∷ [])
    ∷ []
unfolding pattern_lanes pattern_kind power_within doubled_within multiple_within fixed_within
lanes_literal = refl

pub texts_literal : map pattern_text (up_from patterns 0)
    ≡ bytes "pow2"
    ∷ bytes "vl1"
    ∷ bytes "vl2"
    ∷ bytes "vl3"
    ∷ bytes "vl4"
    ∷ bytes "vl5"
    ∷ bytes "vl6"
    ∷ bytes "vl7"
    ∷ bytes "vl8"
    ∷ bytes "vl16"
    ∷ bytes "vl32"
    ∷ bytes "vl64"
    ∷ bytes "vl128"
    ∷ bytes "vl256"
    ∷ bytes "#14"
    ∷ bytes "#15"
    ∷ bytes "#16"
    ∷ bytes "#17"
    ∷ bytes "#18"
    ∷ bytes "#19"
    ∷ bytes "#20"
    ∷ bytes "#21"
    ∷ bytes "#22"
    ∷ bytes "#23"
    ∷ bytes "#24"
    ∷ bytes "#25"
    ∷ bytes "#26"
    ∷ bytes "#27"
    ∷ bytes "#28"
    ∷ bytes "mul4"
    ∷ bytes "mul3"
    ∷ bytes "all"
    ∷ []
unfolding pattern_text pattern_kind digit_of digits_in width_within decimal_width
texts_literal = refl

-- texts that are no pattern's: a named one by its number, no text, a number of lanes that no pattern fixes, capitals, a space, a leading zero
pub none_named_literal : map pattern_named
    (bytes "#31" ∷ bytes "#5" ∷ bytes "#32" ∷ bytes "" ∷ bytes "vl9" ∷ bytes "vl512" ∷ bytes "ALL" ∷ bytes "all " ∷ bytes "#014" ∷ bytes "14" ∷ [])
    ≡ replicate 10 32
unfolding pattern_named named_from pattern_text pattern_kind digit_of digits_in width_within decimal_width
none_named_literal = refl
