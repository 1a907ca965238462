-- The invariant of `add_segments`: after h halves the row has the sums of h / 2 segments, and of one more at the places of a lower half.
-- Assumes nothing.
use Rattle.std.proofs.Common.{◌≡◌, ◌*◌, ◌/◌, ◌%◌}
use Rattle.columns.specs.Added.{per_half, added_row}
use Rattle.columns.proofs.add_segments.Given as goal

abbrev pub invariant-loop-h : goal.invariant-loop-h
invariant-loop-h g l = l.row ≡ added_row g.row.W l.predicate l.register (l.h / 2) (l.h % 2 * per_half g.row.W)
