-- The invariant of `panel_of`: the rows passed are the panel's and the rest is zero.
use Rattle.sums.proofs.Panels.{Filled}
use Rattle.sums.proofs.panel_of.Given as goal

abbrev pub invariant-loop-s : goal.invariant-loop-s
invariant-loop-s l = Filled l.w l.predicate l.register l.s l.rows
