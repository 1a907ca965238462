-- Lanes by the paper's own numbers: Z1 has the bytes 1 to 16 in order but for one, P0 the bytes 05 00, and k is 1. At sixteen bits 05 makes lanes 0 and 1
-- active, and lane 1 of Z1 starts at byte 18 of the file; at eight bits 05 makes lanes 0 and 2 active. A byte of 80 is -128.
-- Assumes nothing.
use mathlib.Core.Path.{◌≡◌, refl}
use mathlib.Core.Bool.{true, false}
use mathlib.Core.List.{List, [], ◌∷◌, ◌++◌}
use Prim.Native.Nat.{ℕ}
use lib.ListN.{replicate}
use Rattle.totals.specs.Lane.{lane_refused, lane_answer, no_lane}

-- the vector file: Z0 is zero, Z1 has these bytes, and all above is zero; and the predicate file
abbrev pub z1 : List ℕ
z1 = replicate 16 0 ++ (1 ∷ 2 ∷ 3 ∷ 4 ∷ 5 ∷ 6 ∷ 7 ∷ 0x80 ∷ 9 ∷ 10 ∷ 11 ∷ 12 ∷ 13 ∷ 14 ∷ 15 ∷ 16 ∷ []) ++ replicate 480 0

abbrev pub p0 : List ℕ
p0 = 0x05 ∷ 0x00 ∷ [] ++ replicate 30 0

pub second_half_word : lane_answer 1 z1 p0 1 0 1 false 1 ≡ record { number = 0; value = 0x0403; active = true; start = 18; bit = 2 }
unfolding lane_refused
second_half_word = refl

pub third_half_word : lane_answer 1 z1 p0 1 0 1 false 2 ≡ record { number = 0; value = 0x0605; active = false; start = 20; bit = 4 }
unfolding lane_refused
third_half_word = refl

pub third_byte : lane_answer 1 z1 p0 1 0 0 true 2 ≡ record { number = 0; value = 3; active = true; start = 18; bit = 2 }
unfolding lane_refused
third_byte = refl

-- lane 7, the eighth: -128 at its sign, 128 without
pub eighth_byte : (lane_answer 1 z1 p0 1 0 0 true 7 ≡ record { number = 0; value = 0xFFFFFFFFFFFFFF80; active = false; start = 23; bit = 7 })
    × (lane_answer 1 z1 p0 1 0 0 false 7 ≡ record { number = 0; value = 0x80; active = false; start = 23; bit = 7 })
unfolding lane_refused
eighth_byte = (refl, refl)

-- the last of each: Z31, P15, sixty-four bits, lane 15 of bytes and lane 1 of double words
pub lanes_there : (lane_answer 1 z1 p0 31 15 0 false 15 ≡ record { number = 0; value = 0; active = false; start = 511; bit = 15 })
    × (lane_answer 1 z1 p0 1 0 3 false 1 ≡ record { number = 0; value = 0x100F0E0D0C0B0A09; active = false; start = 24; bit = 8 })
unfolding lane_refused
lanes_there = (refl, refl)

-- one past each is RANGE, with nothing told
pub lanes_past : (lane_answer 1 z1 p0 32 0 0 false 0 ≡ no_lane 13) × (lane_answer 1 z1 p0 1 16 0 false 0 ≡ no_lane 13) × (lane_answer 1 z1 p0 1 0 4 false 0 ≡ no_lane 13)
    × (lane_answer 1 z1 p0 1 0 0 false 16 ≡ no_lane 13) × (lane_answer 1 z1 p0 1 0 3 false 2 ≡ no_lane 13)
unfolding lane_refused
lanes_past = (refl, refl, refl, refl, refl)
