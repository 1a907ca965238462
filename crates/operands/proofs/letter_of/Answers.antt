-- `letter_of` meets its contract: the table is the list of letters.
-- Assumes nothing.
use Rattle.std.proofs.Common.{rules}
use Rattle.operands.specs.Operands.{letter_of}
use Rattle.operands.proofs.letter_of.Goals as goal

pub returns : goal.returns
unfolding letter_of
returns c = search rules
