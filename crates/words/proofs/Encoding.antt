-- A word is its row's value plus its fields, and fields in range are those of one word. Computed once over the table: each row's mask and the
-- masks of its fields have all the word's digits, and no digit twice.
-- Assumes nothing.
use mathlib.Core.Path.{◌≡◌, refl, sym, ◌∙◌, ap}
use mathlib.Core.Bool.{Bool, true}
use mathlib.Core.List.{List, [], ◌∷◌, map}
use Prim.Native.Nat.{ℕ, ◌-◌, ◌^◌, ◌<◌}
use native.Mathlib.Omega.{arith}
use lib.Dec.{eqb}
use lib.ListN.{get_or, drop}
use borrow.Author.Tests.{eq-eqb, eqb-true}
use Rattle.parts.specs.Part.{both}
use Rattle.parts.proofs.Same.{both_left, both_right}
use Rattle.rows.specs.Digits.{digits_and, word_digits}
use Rattle.rows.specs.Table.{rows, row_at, row_mask, row_value, row_of, family_of, matches}
use Rattle.words.specs.Field.{size_place, source_place, destination_place, governing_place, second_place, q_place, pattern_place}
use Rattle.words.specs.Field.{size_digits_in, source_digits, destination_digits, governing_digits, second_digits, q_digits, pattern_digits}
use Rattle.words.specs.Decode.{decoded, judged, fields_at}
use Rattle.words.specs.Encode.{encoded, InRange}
use Rattle.rows.specs.declared.Family.{Family}
use Rattle.words.specs.declared.Fields.{Fields}
use Rattle.words.specs.Decode.{Word}
use Rattle.rows.proofs.Digits.{and_all, and_below, field_below}
use Rattle.rows.proofs.Every.{every, at_each}
use Rattle.rows.proofs.Rows.{row_matches}
use Rattle.rows.proofs.OneRow.{row_found}
use Rattle.words.proofs.Decoding.{digits_most, decoded_judged, accepted}
use Rattle.words.proofs.Parts.{total, disjoint, under, under_total, Within, total_within, total_under}
use Rattle.words.proofs.Parts.{Place, field_mask, placed, under_fields, Fits, fields_within, placed_one}

-- the places of a family's fields, and the numbers that stand there
abbrev pub places_of : Family → List Place
places_of family =
    (size_place, size_digits_in family)
    ∷ (source_place, source_digits family)
    ∷ (destination_place, destination_digits family)
    ∷ (governing_place, governing_digits family)
    ∷ (second_place, second_digits family)
    ∷ (q_place, q_digits family)
    ∷ (pattern_place, pattern_digits family)
    ∷ []

abbrev pub numbers_of : Fields → List ℕ
numbers_of f = f.size ∷ f.n ∷ f.d ∷ f.g ∷ f.m ∷ f.q ∷ f.pattern ∷ []

-- a row's mask and those of its fields, and the numbers that make up a word
abbrev pub masks_of : ℕ → List ℕ
masks_of i = row_mask i ∷ map field_mask (places_of (family_of i))

abbrev pub parts_of : Fields → List ℕ
parts_of f = row_value f.row ∷ placed (places_of (family_of f.row)) (numbers_of f)

encoded_parts : (f : Fields) → encoded f ≡ total (parts_of f)
unfolding encoded
encoded_parts f = omega arith

-- a row's value lies within its mask, and the masks have all digits, none twice
unfoldable pub laid_out : ℕ → Bool
laid_out i =
    both (eqb (digits_and word_digits (row_value i) (row_mask i)) (row_value i))
    (both (eqb (total (masks_of i)) (2 ^ word_digits - 1)) (disjoint word_digits (masks_of i)))

-- in each row of the table the value lies within its mask, and the masks have all digits, none twice
pub all_laid_out : every rows laid_out ≡ true
unfolding laid_out disjoint digits_and row_at
all_laid_out = refl

record LaidOut (i : ℕ) : Type 0 where
  value : digits_and word_digits (row_value i) (row_mask i) ≡ row_value i
  whole : total (masks_of i) ≡ 2 ^ word_digits - 1
  apart : disjoint word_digits (masks_of i) ≡ true

laid_out_lem : (i : ℕ) → i < rows → LaidOut i
unfolding laid_out
laid_out_lem i h =
    let e = at_each rows laid_out all_laid_out i h in
    let rest = both_right (eqb (digits_and word_digits (row_value i) (row_mask i)) (row_value i)) _ e in
    record {
      value = eqb-true _ _ (both_left _ _ e);
      whole = eqb-true _ _ (both_left _ _ rest);
      apart = both_right (eqb (total (masks_of i)) (2 ^ word_digits - 1)) _ rest;
    }

-- a row's value has no digit outside its mask
pub value_within : (i : ℕ) → i < rows → digits_and word_digits (row_value i) (row_mask i) ≡ row_value i
value_within i h = (laid_out_lem i h).value

-- what a word of a row has under the row's masks
under_word : (i word : ℕ) → word < 2 ^ word_digits → matches (row_at i) word ≡ true
    → under word_digits word (masks_of i) ≡ parts_of (fields_at i word)
unfolding matches
under_word i word h e = cc (eqb-true (digits_and word_digits word (row_mask i)) (row_value i) e, under_fields word_digits (places_of (family_of i)) word h)

-- a word of a row is the row's value plus its fields
pub encoded_fields : (i word : ℕ) → i < rows → word < 2 ^ word_digits → matches (row_at i) word ≡ true → encoded (fields_at i word) ≡ word
encoded_fields i word hi h e =
    encoded_parts (fields_at i word)
    ∙ ap total (sym (under_word i word h e))
    ∙ sym (under_total word_digits word (masks_of i) (laid_out_lem i hi).apart)
    ∙ ap (digits_and word_digits word) (laid_out_lem i hi).whole
    ∙ and_all word_digits word h

-- an accepted word is what its fields make
pub encoded_decoded : (word : ℕ) (f : Fields) → word < 2 ^ word_digits → decoded word ≡ Word f → encoded f ≡ word
encoded_decoded word f h e =
    let a = accepted word f e in
    ap encoded a.fields ∙ encoded_fields (row_of word) word a.known h (row_matches word a.known)

-- the fields of an accepted word are in range
pub decoded_in_range : (word : ℕ) (f : Fields) → decoded word ≡ Word f → InRange f
decoded_in_range word f e =
    let a = accepted word f e in
    let family = family_of (row_of word) in
    rw a.fields
    (record {
      row = a.known;
      size = field_below size_place (size_digits_in family) word;
      n = field_below source_place (source_digits family) word;
      d = field_below destination_place (destination_digits family) word;
      g = field_below governing_place (governing_digits family) word;
      m = field_below second_place (second_digits family) word;
      q = field_below q_place (q_digits family) word;
      pattern = field_below pattern_place (pattern_digits family) word;
      allowed = rw a.fields at a.allowed;
    })

-- fields of one row are told by their numbers
numbers_tell : (f g : Fields) → f.row ≡ g.row → numbers_of f ≡ numbers_of g → f ≡ g
numbers_tell f g row e = λ t. record {
  row = row t;
  size = ap (λ (l : List ℕ). get_or l 0 0) e t;
  n = ap (λ (l : List ℕ). get_or l 1 0) e t;
  d = ap (λ (l : List ℕ). get_or l 2 0) e t;
  g = ap (λ (l : List ℕ). get_or l 3 0) e t;
  m = ap (λ (l : List ℕ). get_or l 4 0) e t;
  q = ap (λ (l : List ℕ). get_or l 5 0) e t;
  pattern = ap (λ (l : List ℕ). get_or l 6 0) e t;
}

-- fields in range: the word that they make decodes to them
module _ (f : Fields) (r : InRange f) where
  -- the numbers of the second source, of Q and of the pattern, and then all, fit their places
  last_fit : Fits word_digits (drop 4 (places_of (family_of f.row))) (drop 4 (numbers_of f))
  last_fit =
      let most = digits_most (family_of f.row) in
      (omega (arith, most.second), r.m, (omega (arith, most.q), r.q, (omega (arith, most.pattern), r.pattern, tt)))

  numbers_fit : Fits word_digits (places_of (family_of f.row)) (numbers_of f)
  numbers_fit =
      let most = digits_most (family_of f.row) in (
        omega (arith, most.size),
        r.size,
        (omega (arith, most.source), r.n, (omega (arith, most.destination), r.d, (omega (arith, most.governing), r.g, last_fit))),
      )

  -- fields in range and the row's value lie within the masks of their row
  parts_within : Within word_digits (parts_of f) (masks_of f.row)
  parts_within = (value_within f.row r.row, fields_within word_digits (places_of (family_of f.row)) (numbers_of f) numbers_fit)

  -- the word that fields in range make has them under the row's masks
  under_encoded : under word_digits (encoded f) (masks_of f.row) ≡ parts_of f
  under_encoded =
      ap (λ (w : ℕ). under word_digits w (masks_of f.row)) (encoded_parts f)
      ∙ total_under word_digits (parts_of f) (masks_of f.row) (laid_out_lem f.row r.row).apart parts_within

  -- what fields in range make is a word
  pub encoded_below : encoded f < 2 ^ word_digits
  encoded_below =
      rw (encoded_parts f ∙ sym (total_within word_digits (parts_of f) (masks_of f.row) (laid_out_lem f.row r.row).apart parts_within))
      (and_below word_digits (total (parts_of f)) (total (masks_of f.row)))

  -- the word that fields in range make is of their row
  encoded_matches : matches (row_at f.row) (encoded f) ≡ true
  unfolding matches
  encoded_matches = eq-eqb _ _ (ap (λ (l : List ℕ). get_or l 0 0) under_encoded)

  -- the word that fields in range make has these fields
  numbers_encoded : numbers_of (fields_at f.row (encoded f)) ≡ numbers_of f
  numbers_encoded =
      placed_one word_digits (places_of (family_of f.row)) (encoded f) (numbers_of f) numbers_fit
      (sym (under_fields word_digits (places_of (family_of f.row)) (encoded f) encoded_below) ∙ ap (drop 1) under_encoded)

  fields_encoded : fields_at f.row (encoded f) ≡ f
  fields_encoded = numbers_tell (fields_at f.row (encoded f)) f refl numbers_encoded

  -- the word that fields in range make decodes to them
  pub decoded_encoded : decoded (encoded f) ≡ Word f
  decoded_encoded =
      let found = row_found f.row (encoded f) r.row encoded_matches in
      decoded_judged (encoded f) (rw found r.row)
      ∙ ap (λ (i : ℕ). judged (fields_at i (encoded f))) found
      ∙ ap judged fields_encoded
      ∙ rw r.allowed
