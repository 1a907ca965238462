-- The paper's texts of ptrue and pfalse: the words that are read in those that it writes, computed; and those that it refuses are TEXT on every core,
-- since the word that is read in each, computed too, reads otherwise.
-- Assumes nothing.
use mathlib.Core.Path.{◌≡◌, refl, ◌∙◌, ap}
use mathlib.Core.Bool.{Bool, true, false, not}
use mathlib.Core.List.{List, [], ◌∷◌, map}
use Prim.Native.Nat.{ℕ, ◌<◌}
use native.Mathlib.Omega.{arith}
use lib.ListN.{get_or}
use Rattle.parts.specs.Part.{same_bytes}
use Rattle.parts.specs.Text.{bytes}
use Rattle.parts.proofs.Same.{same_refl}
use Rattle.machine.specs.Refusal.{TEXT}
use Rattle.machine.specs.Refusal.{Answer}
use Rattle.facts.specs.declared.Facts.{Facts}
use Rattle.rows.specs.Digits.{digits_and}
use Rattle.rows.specs.Table.{row_at, row_of, matches, place_from}
use Rattle.rows.proofs.Every.{every, at_each}
use Rattle.words.specs.Decode.{decoded}
use Rattle.words.specs.Encode.{encoded}
use Rattle.digits.specs.Digits.{digit_of, digits_in, width_within, decimal_width}
use Rattle.patterns.specs.Lanes.{pattern_kind}
use Rattle.patterns.specs.Text.{pattern_text, named_from, pattern_named}
use Rattle.operands.specs.Operands.{letter_of}
use Rattle.names.specs.Text.{key_of, name_of, key_from, row_named, text_of}
use Rattle.names.specs.Named.{text_of_word}
use Rattle.scans.specs.Scanned.{past_space, number_in, from_end}
use Rattle.assembles.specs.Reading.{fields_from, word_of}
use Rattle.assembles.specs.Assembled.{Assembled}
use Rattle.assembles.proofs.Assembling.{read_word}
use Rattle.assembles.proofs.Theorems.{text_exactly}

-- the words that are read in texts
pub words_literal : map (λ (text : List ℕ). word_of (fields_from text))
    (bytes "ptrue p3.h, vl16" ∷ bytes "ptrue p0.b, all" ∷ bytes "ptrue p15.d, #14" ∷ bytes "ptrue p7.s, mul3" ∷ bytes "pfalse p3.b" ∷ [])
    ≡ 0x2558E123 ∷ 0x2518E3E0 ∷ 0x25D8E1CF ∷ 0x2598E3C7 ∷ 0x2518E403 ∷ []
unfolding row_at key_of key_from row_named past_space number_in from_end encoded digit_of digits_in width_within decimal_width pattern_text pattern_kind named_from pattern_named
words_literal = refl

-- texts that the paper refuses: a number for a pattern that has a name, no pattern, another size of pfalse, and others that are nearly a text
abbrev refused_texts : List (List ℕ)
refused_texts =
    bytes "ptrue p0.b, #31"
    ∷ bytes "ptrue p0.b, #5"
    ∷ bytes "ptrue p0.b"
    ∷ bytes "pfalse p3.h"
    ∷ bytes "ptrue p0.b, vl9"
    ∷ bytes "ptrue p0.b, ALL"
    ∷ bytes "ptrue p0.b,all"
    ∷ bytes "ptrue p16.b, all"
    ∷ []

abbrev refused_text : ℕ → List ℕ
refused_text i = get_or refused_texts i []

-- the word that is read in one of them reads otherwise
otherwise : ℕ → Bool
otherwise i = not (same_bytes (text_of_word (word_of (fields_from (refused_text i)))) (refused_text i))

all_otherwise : every 8 otherwise ≡ true
unfolding otherwise decoded row_at row_of place_from matches digits_and text_of key_of name_of key_from row_named past_space number_in from_end encoded digit_of digits_in
    width_within decimal_width letter_of pattern_text pattern_kind named_from pattern_named
all_otherwise = refl

-- so no word reads so, and the answer is TEXT
pub refused_literal : (facts : Facts) (i : ℕ) (r : Answer) → i < 8 → Assembled (refused_text i) facts r → r.number ≡ TEXT
unfolding otherwise
refused_literal facts i r h a =
    (text_exactly facts (refused_text i) r a).1
    (λ word reads. differs _ (at_each 8 otherwise all_otherwise i h)
    (ap (λ (t : List ℕ). same_bytes t (refused_text i)) (ap text_of_word (read_word facts (refused_text i) word reads) ∙ reads.reads)
    ∙ same_refl (refused_text i)))
  where
    differs : (t : Bool) → not t ≡ true → t ≡ true → ⊥
    differs true n e = let z : ◌≡◌ {A = ℕ} 0 1 = cc in omega arith
    differs false n e = let z : ◌≡◌ {A = ℕ} 0 1 = cc in omega arith
