-- The invariant of `count_all`: the count is that of the words below the block at hand.
-- Assumes nothing.
use Rattle.std.proofs.Common.{◌≡◌, ◌*◌}
use Rattle.count_words.specs.Tally.{block_words, tally}
use Rattle.count_words.proofs.count_all.Given as goal

abbrev pub invariant-loop-upper : goal.invariant-loop-upper
invariant-loop-upper l = l.count ≡ tally l.counted 0 (l.upper * block_words)
