-- The words before this one are replaced.
use Rattle.std.proofs.Common.{◌≡◌}
use Rattle.fillings.specs.Filled.{filled_words}
use Rattle.fillings.proofs.fill_words.Given as goal

abbrev pub invariant-loop-i : goal.invariant-loop-i
invariant-loop-i l = l.program ≡ filled_words l.i l.fn.program
