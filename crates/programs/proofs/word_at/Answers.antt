-- `word_at` meets its contract: four bytes make a number of 32 bits.
-- Assumes nothing.
use Rattle.programs.proofs.Words.{word_lt}
use Rattle.programs.proofs.word_at.Goals as goal

pub overflow_cast-result : goal.overflow_cast-result
overflow_cast-result c =
    record { fits = rw c.number_at.ensures (word_lt c.args.program.now c.args.i (λ j. (c.type_inv.program j).fits)) }
