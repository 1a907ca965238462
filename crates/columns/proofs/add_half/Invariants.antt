-- The invariant of `add_half`: the lanes before the place of a turn have the sums of one segment more.
-- Assumes nothing.
use Rattle.std.proofs.Common.{◌≡◌, ◌+◌, ◌/◌}
use Rattle.columns.specs.Added.{added_row}
use Rattle.columns.proofs.add_half.Given as goal

abbrev pub invariant-loop-e : goal.invariant-loop-e
invariant-loop-e l = l.row ≡ added_row l.w l.predicate l.register (l.h / 2) (l.place + l.e)
