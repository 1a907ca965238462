-- All rows are zero at first, each turn fills the next, and past the last segment they are the panel's.
use Rattle.std.proofs.Common.{arith}
use Rattle.sums.proofs.Panels.{filled_none, filled_next, filled_all}
use Rattle.sums.proofs.panel_of.Goals as goal

pub loop-s-init : goal.loop-s-init
loop-s-init c = filled_none c.args.w c.args.predicate.now c.args.register.now

pub loop-s-preserved : goal.loop-s-preserved
loop-s-preserved c =
    let a = c.args in
    rw c.panel_row.ensures
    (filled_next a.w a.predicate.now a.register.now c.loop-s.s c.loop-s.rows (omega arith) (omega arith) c.loop-s.invariant)

pub returns : goal.returns
returns c =
    let a = c.args in
    filled_all a.w a.predicate.now a.register.now c.loop-s.s c.loop-s.rows (omega arith) c.loop-s.invariant
