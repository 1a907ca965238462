-- The invariant of `row_at`: what is taken so far is the row at the larger of the place and j, which past the last row is none.
-- Assumes nothing.
use Rattle.std.proofs.Common.{◌≡◌, ◌+◌, ◌-◌}
use Rattle.rows.specs.Table.{row_at}
use Rattle.rows.proofs.row_at.Given as goal

abbrev pub invariant-loop-j : goal.invariant-loop-j
invariant-loop-j l = l.row ≡ row_at (l.i + (l.j - l.i))
