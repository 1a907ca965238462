-- The upper half of a word alone decides whether a row can match: where it differs from the row's no word of the block matches, and where it
-- agrees one does.
-- Assumes nothing.
use mathlib.Core.Path.{◌≡◌, sym, ◌∙◌, ap}
use mathlib.Core.Bool.{true, false}
use Prim.Native.Nat.{ℕ, ◌+◌, ◌*◌, ◌/◌, ◌%◌, ◌^◌, ◌<◌}
use native.Mathlib.Nat.{mod-lt}
use native.Mathlib.Omega.{arith}
use lib.Bits.{bit_and, and_block, and_mod, and_le_l}
use lib.Pow.{split, pow_pos}
use borrow.Author.Tests.{eq-eqb, ne_eqb}
use Rattle.rows.specs.Digits.{digits_and, word_digits}
use Rattle.rows.specs.Table.{rows, row_at, row_mask, row_value, matches}
use Rattle.rows.proofs.Digits.{and_digits, and_below}
use Rattle.words.proofs.Encoding.{value_within}
use Rattle.count_words.specs.Tally.{block_words}

-- the upper half of the row at a place is this one
abbrev pub Upper : ℕ → ℕ → Type 0
Upper upper i = bit_and upper (row_mask i / block_words) ≡ row_value i / block_words

-- AND by halves
and_halves : (upper low m : ℕ) → upper < block_words → low < block_words
    → digits_and word_digits (upper * block_words + low) m ≡ bit_and upper (m / block_words) * block_words + bit_and low (m % block_words)
and_halves upper low m hu hl =
    sym (and_digits word_digits (upper * block_words + low) m (omega arith))
    ∙ ap (bit_and (upper * block_words + low)) (sym (split m 16))
    ∙ and_block 16 upper (m / block_words) low (m % block_words) hl (mod-lt m (pow_pos 16))

-- a row with another upper half matches no word of the block
pub other_half : (upper low i : ℕ) → upper < block_words → low < block_words → (Upper upper i → ⊥)
    → matches (row_at i) (upper * block_words + low) ≡ false
unfolding matches
other_half upper low i hu hl ne =
    ne_eqb _ _
    (λ (e : digits_and word_digits (upper * block_words + low) (row_mask i) ≡ row_value i). ne
    (omega (arith, and_halves upper low (row_mask i) hu hl, and_le_l low (row_mask i % block_words))))

-- one with this upper half matches the word whose lower half is the value's
pub same_half : (upper i : ℕ) → upper < block_words → i < rows → Upper upper i
    → matches (row_at i) (upper * block_words + row_value i % block_words) ≡ true
unfolding matches
same_half upper i hu hi e =
    let v = row_value i in
    let m = row_mask i in
    let within = value_within i hi in
    let below : v < 2 ^ word_digits = rw (← within) (and_below word_digits v m) in
    let lower : bit_and (v % block_words) (m % block_words) ≡ v % block_words
    = sym (and_mod v m 16) ∙ ap (λ (x : ℕ). x % block_words) (and_digits word_digits v m below ∙ within) in
    eq-eqb (digits_and word_digits (upper * block_words + v % block_words) m) v
    (omega (arith, e, lower, and_halves upper (v % block_words) m hu (mod-lt v (pow_pos 16))))
