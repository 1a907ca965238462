-- How many words have an answer, and the blocks of words with one upper half.
use Rattle.std.specs.Prelude.{◌≡◌, false, cond, ℕ, zero, suc, ◌+◌, ◌*◌, ◌^◌, ◌<◌, eqb}
use Rattle.rows.specs.Table.{rows, row_at, matches}
use Rattle.words.specs.Decode.{decoded, number_of}

-- the words of a block, which is also the number of blocks
abbrev pub block_words : ℕ
block_words = 2 ^ 16

-- how many of the `count` words from `first` on are answered with this number
unfoldable pub tally : ℕ → ℕ → ℕ → ℕ
tally number first zero = 0
tally number first (suc count) = tally number first count + cond (eqb (number_of (decoded (first + count))) number) 1 0

-- no word of the block with this upper half matches a row
abbrev pub NoWord : ℕ → Type 0
NoWord upper = (low i : ℕ) → low < block_words → i < rows → matches (row_at i) (upper * block_words + low) ≡ false
