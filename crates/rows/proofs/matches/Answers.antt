-- `matches` meets its contract: the machine's AND of a word is that of its digits.
-- Assumes nothing.
use Rattle.rows.specs.Digits.{word_digits}
use Rattle.rows.specs.Table.{matches}
use Rattle.rows.proofs.Digits.{and_digits}
use Rattle.rows.proofs.matches.Goals as goal

pub returns : goal.returns
unfolding matches
returns c = rw (and_digits word_digits _ _ c.ranges.word.fits)
