-- What the assembler's answers rest on: a text of an accepted word is read as that word, and the answer in each of its cases.
-- Assumes nothing.
use mathlib.Core.Path.{◌≡◌, refl, sym, ◌∙◌, ap}
use mathlib.Core.Logic.{inl, inr}
use mathlib.Core.List.{List}
use Prim.Native.Nat.{ℕ, ◌<◌, ◌≤◌, ◌^◌, ◌%◌}
use native.Mathlib.Nat.{mod-eq_of_lt, mod-lt}
use native.Mathlib.Omega.{arith}
use lib.ListN.{length, take}
use lib.Pow.{pow_pos}
use Rattle.machine.specs.Refusal.{DONE, TEXT}
use Rattle.machine.specs.Refusal.{Answer}
use Rattle.rows.specs.Digits.{word_digits}
use Rattle.words.specs.Decode.{decoded, number_of}
use Rattle.words.specs.Encode.{encoded, InRange}
use Rattle.words.specs.declared.Fields.{Fields}
use Rattle.words.specs.Decode.{Word}
use Rattle.rows.specs.Table.{family_of}
use Rattle.words.proofs.Decoding.{governing_below, second_below, q_below, size_in_lem, source_in, destination_in, pattern_in_lem}
use Rattle.words.proofs.Encoding.{decoded_in_range, encoded_decoded}
use Rattle.facts.specs.declared.Facts.{Facts}
use Rattle.cores.specs.Core.{decoded_on}
use Rattle.cores.proofs.Answers.{core_decodes, done_word}
use Rattle.names.specs.Text.{text_of}
use Rattle.names.specs.Named.{least_out, text_of_decoded, text_of_word, Named}
use Rattle.names.proofs.Naming.{done_accepted, accepted_named}
use Rattle.assembles.specs.Reading.{fields_from, limited, word_of}
use Rattle.assembles.specs.Assembled.{ReadsAs, Assembled}
use Rattle.assembles.proofs.Back.{read_back}

-- fields in range have no more digits than their places
in_place : (f : Fields) → InRange f → limited f ≡ f
in_place f r =
    let family = family_of f.row in
    λ t. record {
      row = f.row;
      size = mod-eq_of_lt (size_in_lem r) t;
      n = mod-eq_of_lt (source_in r) t;
      d = mod-eq_of_lt (destination_in r) t;
      g = mod-eq_of_lt (governing_below family r.g) t;
      m = mod-eq_of_lt (second_below family r.m) t;
      q = mod-eq_of_lt (q_below family r.q) t;
      pattern = mod-eq_of_lt (pattern_in_lem r) t;
    }

-- a word that a core accepts decodes to its fields
pub accepted_on : (facts : Facts) (word : ℕ) → number_of (decoded_on facts word) ≡ DONE → (f : Fields) × (decoded word ≡ Word f)
accepted_on facts word e = let (f, is) = done_word (decoded_on facts word) e in (f, core_decodes facts word f is)

-- the word that is read in a text of an accepted word is that word
pub read_word : (facts : Facts) (text : List ℕ) (word : ℕ) → ReadsAs facts word text → word_of (fields_from text) ≡ word
read_word facts text word reads =
    let (f, is) = accepted_on facts word reads.accepted in
    let r = decoded_in_range word f is in
    let text-is : text ≡ text_of f = sym reads.reads ∙ ap text_of_decoded is in
    ap word_of (ap fields_from text-is ∙ read_back f r)
    ∙ ap (λ (g : Fields). encoded g % 2 ^ word_digits) (in_place f r)
    ∙ ap (λ (w : ℕ). w % 2 ^ word_digits) (encoded_decoded word f reads.below is)
    ∙ mod-eq_of_lt reads.below

-- the two answers
pub assembled_done : (facts : Facts) (text : List ℕ) (word : ℕ) → ReadsAs facts word text → Assembled text facts (record { number = DONE; value = word })
assembled_done facts text word reads = record { number = inl refl; done = λ _. reads; refused = λ z. absurd (omega arith) }

pub assembled_none : (facts : Facts) (text : List ℕ) → ((word : ℕ) → ReadsAs facts word text → ⊥) → Assembled text facts (record { number = TEXT; value = 0 })
assembled_none facts text none = record { number = inr refl; done = λ z. absurd (omega arith); refused = λ _. (refl, none) }

-- a word that was named and whose text is this one reads as it
pub checked : (facts : Facts) (text old new : List ℕ) (word : ℕ) (r : Answer) → word < 2 ^ word_digits → Named word facts old new r → r.number ≡ DONE
    → take r.value new ≡ text → ReadsAs facts word text
checked facts text old new word r below named done same =
    let (long, accepted) = done_accepted word facts old new r named done in
    let (_, front) = accepted_named word facts old new r named long accepted in
    record { below = below; accepted = accepted; reads = sym front ∙ same }

-- and where naming the word that was read does not give this text, no word reads as it
pub unchecked : (facts : Facts) (text old new : List ℕ) (word : ℕ) (r : Answer) → word ≡ word_of (fields_from text) → least_out ≤ length old → Named word facts old new r
    → (r.number ≡ DONE → take r.value new ≡ text → ⊥) → (v : ℕ) → ReadsAs facts v text → ⊥
unchecked facts text old new word r read long named differ v reads =
    let is : word ≡ v = read ∙ read_word facts text v reads in
    let (number, front) = accepted_named word facts old new r named long (rw is reads.accepted) in
    differ number (front ∙ ap text_of_word is ∙ reads.reads)

pub word_below : (f : Fields) → word_of f < 2 ^ word_digits
word_below f = mod-lt (encoded (limited f)) (pow_pos word_digits)
