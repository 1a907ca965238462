-- `count_block` meets its contract: a block is passed over only where none of its words matches a row, and there nothing is counted.
-- Assumes nothing.
use Rattle.std.proofs.Common.{sym, ◌*◌}
use Rattle.count_words.specs.Tally.{block_words}
use Rattle.count_words.proofs.Tallies.{tally_none}
use Rattle.count_words.proofs.count_block.Goals as goal

pub returns-else-block_matches : goal.returns-else-block_matches
returns-else-block_matches c =
    sym (tally_none c.args.counted (c.args.upper * block_words) block_words c.requires.1 (c.block_matches.ensures.0 c.if-block_matches.false))
