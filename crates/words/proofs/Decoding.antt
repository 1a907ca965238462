-- What a word decodes to, by its row.
-- Assumes nothing.
use mathlib.Core.Path.{◌≡◌, refl, sym}
use mathlib.Core.Bool.{Bool, true, false}
use Prim.Native.Nat.{ℕ, ◌^◌, ◌≤◌, ◌<◌}
use native.Mathlib.Nat.{lt_of_lt_of_le}
use native.Mathlib.Omega.{arith}
use lib.Dec.{ltb, leb}
use lib.Pow.{pow_mono}
use borrow.Author.Tests.{lt-ltb, le-ltb, ltb-true, leb-true}
use Rattle.parts.specs.Part.{both}
use Rattle.parts.proofs.Same.{both_left, both_right}
use Rattle.rows.specs.Table.{rows, row_of, form_of, family_of}
use Rattle.words.specs.Sizes.{allows}
use Rattle.words.specs.Decode.{decoded, judged, fields_at}
use Rattle.words.specs.Field.{size_digits, register_digits, predicate_digits, naming_digits}
use Rattle.words.specs.Field.{size_digits_in, source_digits, destination_digits, governing_digits, second_digits, q_digits, pattern_digits}
use Rattle.words.specs.Encode.{InRange}
use Rattle.words.specs.Decode.{Unknown, Undefined, Word}
use Rattle.words.specs.declared.Fields.{Fields}
use Rattle.rows.specs.declared.Family.{Family}
use Rattle.rows.specs.declared.Family.TheVariants.{Low, Wide, Made}
use Rattle.rows.specs.declared.LowFamily.TheVariants.{Reduction, Segment, Long}
use Rattle.rows.specs.declared.WideFamily.TheVariants.{Pairwise, Widening}
use Rattle.rows.specs.declared.MadeFamily.TheVariants.{Patterned, Cleared}

-- what a word decodes to where no row matches it, and where one does
pub decoded_unknown : (word : ℕ) → rows ≤ row_of word → decoded word ≡ Unknown
unfolding decoded
decoded_unknown word h = rw (le-ltb _ _ h)

pub decoded_judged : (word : ℕ) → row_of word < rows → decoded word ≡ judged (fields_at (row_of word) word)
unfolding decoded
decoded_judged word h = rw (lt-ltb _ _ h)

-- the digits that each field has at most, in the words of any family
pub record DigitsMost (family : Family) : Type 0 where
  pub size : size_digits_in family ≤ size_digits
  pub source : source_digits family ≤ register_digits
  pub destination : destination_digits family ≤ register_digits
  pub governing : governing_digits family ≤ predicate_digits
  pub second : second_digits family ≤ register_digits
  pub q : q_digits family ≤ 1
  pub pattern : pattern_digits family ≤ naming_digits

-- the same as a test that computes
abbrev few_digits : Family → Bool
few_digits family =
    both (leb (size_digits_in family) size_digits)
    (both (leb (source_digits family) register_digits)
    (both (leb (destination_digits family) register_digits)
    (both (leb (governing_digits family) predicate_digits)
    (both (leb (second_digits family) register_digits) (both (leb (q_digits family) 1) (leb (pattern_digits family) naming_digits))))))

few_digits_lem : (family : Family) → few_digits family ≡ true
few_digits_lem (Low Reduction) = refl
few_digits_lem (Low Segment) = refl
few_digits_lem (Low Long) = refl
few_digits_lem (Wide Pairwise) = refl
few_digits_lem (Wide Widening) = refl
few_digits_lem (Made Patterned) = refl
few_digits_lem (Made Cleared) = refl

pub digits_most : (family : Family) → DigitsMost family
digits_most family =
    let size = few_digits_lem family in
    let source = both_right (leb (size_digits_in family) size_digits) _ size in
    let destination = both_right (leb (source_digits family) register_digits) _ source in
    let governing = both_right (leb (destination_digits family) register_digits) _ destination in
    let second = both_right (leb (governing_digits family) predicate_digits) _ governing in
    let q = both_right (leb (second_digits family) register_digits) _ second in
    record {
      size = leb-true _ _ (both_left _ _ size);
      source = leb-true _ _ (both_left _ _ source);
      destination = leb-true _ _ (both_left _ _ destination);
      governing = leb-true _ _ (both_left _ _ governing);
      second = leb-true _ _ (both_left _ _ second);
      q = leb-true _ _ (both_left _ _ q);
      pattern = leb-true _ _ (both_right (leb (q_digits family) 1) _ q);
    }

-- a number of a field's digits is below what the most digits of the field hold
pub below_most : {n most x : ℕ} → n ≤ most → x < 2 ^ n → x < 2 ^ most
below_most few h = lt_of_lt_of_le h (pow_mono few)

pub governing_below : (family : Family) {x : ℕ} → x < 2 ^ governing_digits family → x < 2 ^ predicate_digits
governing_below family = below_most (digits_most family).governing

pub second_below : (family : Family) {x : ℕ} → x < 2 ^ second_digits family → x < 2 ^ register_digits
second_below family = below_most (digits_most family).second

pub q_below : (family : Family) {x : ℕ} → x < 2 ^ q_digits family → x < 2
q_below family = below_most (digits_most family).q

-- fields that some word has: the size, the source, the destination and the pattern are below what the most digits of each hold
module _ {f : Fields} (r : InRange f) where
  pub size_in_lem : f.size < 2 ^ size_digits
  size_in_lem = below_most (digits_most (family_of f.row)).size r.size

  pub source_in : f.n < 2 ^ register_digits
  source_in = below_most (digits_most (family_of f.row)).source r.n

  pub destination_in : f.d < 2 ^ register_digits
  destination_in = below_most (digits_most (family_of f.row)).destination r.d

  pub pattern_in_lem : f.pattern < 2 ^ naming_digits
  pattern_in_lem = below_most (digits_most (family_of f.row)).pattern r.pattern

-- what is known of an accepted word
pub record Accepted (word : ℕ) (f : Fields) : Type 0 where
  pub known : row_of word < rows
  pub fields : f ≡ fields_at (row_of word) word
  pub allowed : allows (form_of f.row) f.q f.size ≡ true

-- fields that are judged to be those of a word are that word's, and their size is allowed
judged_word : (f g : Fields) (t : Bool) → allows (form_of f.row) f.q f.size ≡ t → judged f ≡ Word g → (f ≡ g) × (t ≡ true)
judged_word f g true e h = (let k : Word f ≡ Word g = rw e at h in cc, refl)
judged_word f g false e h = let k : Undefined ≡ Word g = rw e at h in (cc, cc)

pub accepted : (word : ℕ) (f : Fields) → decoded word ≡ Word f → Accepted word f
unfolding decoded
accepted word f h = go (ltb (row_of word) rows) refl
  where
    go : (t : Bool) → ltb (row_of word) rows ≡ t → Accepted word f
    go true e =
        let j = judged_word (fields_at (row_of word) word) f _ refl (rw e at h) in
        record { known = ltb-true _ _ e; fields = sym j.0; allowed = rw (sym j.0) j.1 }
    go false e =
        let k : Unknown ≡ Word f = rw e at h in
        let z : ◌≡◌ {A = ℕ} 0 1 = cc in
        absurd (omega arith)
