-- The invariant of `count_each`: the count is that of the words passed.
-- Assumes nothing.
use Rattle.std.proofs.Common.{◌≡◌, ◌*◌}
use Rattle.count_words.specs.Tally.{block_words, tally}
use Rattle.count_words.proofs.count_each.Given as goal

abbrev pub invariant-loop-low : goal.invariant-loop-low
invariant-loop-low l = l.count ≡ tally l.counted (l.upper * block_words) l.low
