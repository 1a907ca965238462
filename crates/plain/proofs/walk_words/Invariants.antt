-- The invariant: the place lies within the journal, or at its first entry.
use Rattle.std.proofs.Common.{◌+◌, ◌≤◌, length}
use Rattle.plain.proofs.walk_words.Given as goal

abbrev pub invariant-loop-i : goal.invariant-loop-i
invariant-loop-i l = l.at ≤ l.initial.at + length l.journal
