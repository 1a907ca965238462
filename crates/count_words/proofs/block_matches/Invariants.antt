-- The invariant of `block_matches`: no row passed has this upper half.
-- Assumes nothing.
use Rattle.std.proofs.Common.{ℕ, ◌<◌}
use Rattle.count_words.proofs.Blocks.{Upper}
use Rattle.count_words.proofs.block_matches.Given as goal

abbrev pub invariant-loop-i : goal.invariant-loop-i
invariant-loop-i l = (j : ℕ) → j < l.i → Upper l.upper j → ⊥
