-- The invariant of `panel_row`: the lanes passed are written and the rest is zero.
use Rattle.machine.specs.Size.{segment_bytes}
use Rattle.lanes.proofs.Written.{Begun}
use Rattle.sums.specs.Panel.{panel_lane}
use Rattle.sums.proofs.panel_row.Given as goal

abbrev pub invariant-loop-e : goal.invariant-loop-e
invariant-loop-e l = Begun segment_bytes l.w l.e (panel_lane l.w l.predicate l.register l.s) l.row
