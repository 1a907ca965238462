-- Counts of words: one word more, two runs of words after each other, and a run of words of no row.
-- Assumes nothing.
use mathlib.Core.Path.{◌≡◌, refl, sym, ◌∙◌, ap}
use mathlib.Core.Bool.{Bool, true, false, cond}
use mathlib.Core.Logic.{◌≢◌}
use Prim.Native.Nat.{ℕ, zero, suc, ◌+◌, ◌*◌, ◌≤◌, ◌<◌}
use native.Mathlib.Nat.{zero-add, add-zero, add-suc, add_assoc}
use native.Mathlib.Numerals.{add-one}
use native.Mathlib.Omega.{arith}
use lib.Dec.{eqb}
use borrow.Author.Tests.{ne_eqb}
use Rattle.machine.specs.Refusal.{UNKNOWN}
use Rattle.rows.specs.Table.{rows, row_at, matches}
use Rattle.words.specs.Decode.{decoded, number_of}
use Rattle.words.proofs.Answers.{number_unknown}
use Rattle.count_words.specs.Tally.{block_words, tally}

-- one word more
pub tally_next : (number first count : ℕ)
    → tally number first (count + 1) ≡ tally number first count + cond (eqb (number_of (decoded (first + count))) number) 1 0
unfolding tally
tally_next number first count = rw add-one

-- a word counts at most once
one_at_most : (t : Bool) → cond t 1 0 ≤ 1
one_at_most true = omega arith
one_at_most false = omega arith

pub tally_most : (number first count : ℕ) → tally number first count ≤ count
unfolding tally
tally_most number first zero = omega arith
tally_most number first (suc count) =
    omega (arith, tally_most number first count, one_at_most (eqb (number_of (decoded (first + count))) number))

-- the words of one run, then those of the next
pub tally_add : (number first a b : ℕ) → tally number first (a + b) ≡ tally number first a + tally number (first + a) b
unfolding tally
tally_add number first a zero = rw (add-zero a, add-zero (tally number first a))
tally_add number first a (suc b) =
    rw (add-suc a b, tally_add number first a b, add_assoc first a b)
    (add_assoc (tally number first a) (tally number (first + a) b) (cond (eqb (number_of (decoded (first + (a + b)))) number) 1 0))

-- words of no row are not counted, unless it is UNKNOWN that is
pub tally_none : (number first count : ℕ) → number ≢ UNKNOWN
    → ((low i : ℕ) → low < count → i < rows → matches (row_at i) (first + low) ≡ false)
    → tally number first count ≡ 0
unfolding tally
tally_none number first zero ne none = refl
tally_none number first (suc count) ne none =
    let before = tally_none number first count ne (λ low i h. none low i (omega arith)) in
    let unknown = number_unknown (first + count) (λ i. none count i (omega arith)) in
    rw (before, ne_eqb _ _ (λ e. ne (sym e ∙ unknown)))

-- the words below a block, then those of the block
pub tally_block : (number upper : ℕ)
    → tally number 0 ((upper + 1) * block_words) ≡ tally number 0 (upper * block_words) + tally number (upper * block_words) block_words
tally_block number upper =
    let more : (upper + 1) * block_words ≡ upper * block_words + block_words = omega arith in
    ap (tally number 0) more
    ∙ tally_add number 0 (upper * block_words) block_words
    ∙ ap (λ (first : ℕ). tally number 0 (upper * block_words) + tally number first block_words) (zero-add (upper * block_words))
