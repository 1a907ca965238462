-- The operands of a text in turn, and how long it may be: 26 bytes, which one text has.
-- Assumes nothing.
use mathlib.Core.Path.{◌≡◌, refl}
use mathlib.Core.List.{List, [], ◌++◌}
use mathlib.Core.Bool.{Bool, true, false}
use Prim.Native.Nat.{ℕ, zero, suc, ◌+◌, ◌^◌, ◌≤◌, ◌<◌}
use native.Mathlib.Nat.{lt_of_lt_of_le}
use native.Mathlib.Omega.{arith}
use lib.Dec.{ltb}
use lib.ListN.{length, length-append}
use borrow.Author.Tests.{ltb-true}
use Rattle.parts.specs.Text.{bytes}
use Rattle.machine.specs.Size.{sizes}
use Rattle.rows.specs.Digits.{digits_and}
use Rattle.rows.specs.Table.{row_at, row_of, family_of, form_of, matches, place_from}
use Rattle.words.specs.Field.{source_digits, governing_digits, second_digits, q_digits, pattern_digits}
use Rattle.words.specs.Decode.{decoded}
use Rattle.words.specs.Encode.{InRange}
use Rattle.rows.specs.declared.Family.{Family}
use Rattle.rows.specs.declared.Family.TheVariants.{Low, Wide, Made}
use Rattle.rows.specs.declared.LowFamily.TheVariants.{Reduction, Segment, Long}
use Rattle.rows.specs.declared.WideFamily.TheVariants.{Pairwise, Widening}
use Rattle.rows.specs.declared.MadeFamily.TheVariants.{Patterned, Cleared}
use Rattle.words.specs.declared.Fields.{Fields}
use Rattle.rows.specs.declared.Form.{Form}
use Rattle.words.specs.Decode.{Decoded}
use Rattle.words.specs.Decode.{Unknown, Undefined, Word}
use Rattle.words.proofs.Decoding.{governing_below, second_below, q_below, size_in_lem, source_in, destination_in, pattern_in_lem}
use Rattle.words.proofs.Encoding.{decoded_in_range}
use Rattle.rows.proofs.Every.{every, at_each}
use Rattle.digits.specs.Digits.{digit_of, digits_in, width_within, decimal_width, decimal}
use Rattle.digits.proofs.Decimals.{decimal_short}
use Rattle.patterns.specs.Text.{pattern_text}
use Rattle.patterns.proofs.Texts.{text_short}
use Rattle.operands.specs.declared.Operand.{Operand}
use Rattle.operands.specs.Operands.{letter_of, lanes_of, operand_text, further, further_pattern, destination_operand, governing_operand, source_operand}
use Rattle.names.specs.Text.{key_of, name_of, where_in, following, operands_text, text_of}
use Rattle.names.specs.Named.{least_out, most_text, text_of_decoded, text_of_word}
use Rattle.names.proofs.Keys.{row_good_lem}

-- the operands of a word of a form: the second source, the sources, and all that follow the destination; and what stands after the last
abbrev pub seconds : Form → Fields → List Operand
seconds form f = where_in (second_digits form.family) (source_operand form.family false f.m f) []

abbrev pub sources : Form → Fields → List Operand
sources form f = where_in (source_digits form.family) (source_operand form.family form.parameters.wide f.n f) (seconds form f)

abbrev pub others : Form → Fields → List Operand
others form f = where_in (governing_digits form.family) (governing_operand form.family f) (sources form f)

abbrev pub ending : Form → Fields → List ℕ
ending form f = further_pattern (pattern_digits form.family) f.pattern

-- the text of a word of a form: the name with its space, the destination, and what follows it
pub text_form : (form : Form) (f : Fields) → form ≡ form_of f.row
    → text_of f ≡ name_of f.row ++ bytes " " ++ (operand_text (destination_operand form.family f) ++ following (others form f) (ending form f))
unfolding text_of
text_form form f e = rw e

-- an operand that follows where its field has digits, before others
pub following_where : {d digits : ℕ} {p o : Operand} (os : List Operand) (end : List ℕ) → d ≡ digits → p ≡ o
    → following (where_in digits o os) end ≡ further d p ++ following os end
following_where {digits = zero} os end ed ep = rw ed
following_where {digits = suc digits} os end ed ep = rw (ed, ep)

-- counts of lanes and registers' numbers have two digits at most
lanes_short : ℕ → ℕ → Bool
lanes_short size q = ltb (lanes_of q size) 100

lanes_short_lem : every sizes (λ size. every 2 (lanes_short size)) ≡ true
unfolding lanes_short
lanes_short_lem = refl

lanes_most : (q size : ℕ) → q < 2 → size < sizes → length (decimal (lanes_of q size)) ≤ 2
unfolding lanes_short
lanes_most q size hq hs =
    decimal_short (lanes_of q size) (ltb-true _ _ (at_each 2 (lanes_short size) (at_each sizes (λ s. every 2 (lanes_short s)) lanes_short_lem size hs) q hq))

pub text_length : (f : Fields) → InRange f → length (text_of f) ≤ most_text
unfolding text_of
text_length f r = go (family_of f.row) (form_of f.row).parameters.wide r.g r.m r.q
  where
    go : (family : Family) (wide : Bool) → f.g < 2 ^ governing_digits family → f.m < 2 ^ second_digits family → f.q < 2 ^ q_digits family
        → length (name_of f.row ++ bytes " " ++ operands_text family wide f) ≤ most_text
    go family wide hg hm hq =
        let name = simp length-append at (row_good_lem f.row r.row).name in
        let d = decimal_short f.d (lt_of_lt_of_le (destination_in r) (omega arith)) in
        let n = decimal_short f.n (lt_of_lt_of_le (source_in r) (omega arith)) in
        let g = decimal_short f.g (lt_of_lt_of_le (governing_below family hg) (omega arith)) in
        let m = decimal_short f.m (lt_of_lt_of_le (second_below family hm) (omega arith)) in
        let lanes = lanes_most f.q f.size (q_below family hq) (size_in_lem r) in
        let whole = lanes_most 1 f.size (omega arith) (size_in_lem r) in
        by family name d n g m lanes whole (text_short f.pattern (pattern_in_lem r))
      where
        by : (family : Family) → length (name_of f.row) + 1 ≤ 7 → length (decimal f.d) ≤ 2 → length (decimal f.n) ≤ 2
            → length (decimal f.g) ≤ 2 → length (decimal f.m) ≤ 2 → length (decimal (lanes_of f.q f.size)) ≤ 2
            → length (decimal (lanes_of 1 f.size)) ≤ 2 → length (pattern_text f.pattern) ≤ 5
            → length (name_of f.row ++ bytes " " ++ operands_text family wide f) ≤ most_text
        by (Low Reduction) a d n g m l w p = simp length-append (omega arith)
        by (Low Segment) a d n g m l w p = simp length-append (omega arith)
        by (Low Long) a d n g m l w p = simp length-append (omega arith)
        by (Wide Pairwise) a d n g m l w p = simp length-append (omega arith)
        by (Wide Widening) a d n g m l w p = simp length-append (omega arith)
        by (Made Patterned) a d n g m l w p = simp length-append (omega arith)
        by (Made Cleared) a d n g m l w p = simp length-append (omega arith)

-- there is room for it in an output that naming takes
pub text_fits : (f : Fields) → InRange f → (room : ℕ) → least_out ≤ room → length (text_of f) ≤ room
text_fits f r room long = omega (arith, text_length f r)

-- the text of any word has at most the bytes of the longest
pub word_length : (word : ℕ) → length (text_of_word word) ≤ most_text
word_length word = go (decoded word) refl
  where
    go : (d : Decoded) → decoded word ≡ d → length (text_of_decoded d) ≤ most_text
    go Unknown e = omega arith
    go Undefined e = omega arith
    go (Word f) e = text_length f (decoded_in_range word f e)

-- there is a text with as many bytes as the longest may have
pub longest_text : text_of_word 0x45DF03FF ≡ bytes "saddlb z31.d, z31.s, z31.s"
unfolding decoded row_at row_of place_from matches digits_and text_of key_of name_of digit_of digits_in width_within decimal_width letter_of
longest_text = refl
