-- Each turn writes the next lane's value.
use Rattle.std.proofs.Common.{ℕ, ◌+◌, ◌*◌, ap, ◌∙◌}
use Rattle.parts.specs.Number.{bytes_of}
use Rattle.machine.specs.Size.{segment_bytes}
use Rattle.lanes.specs.Lane.{lane, active}
use Rattle.lanes.proofs.Written.{begun_next}
use Rattle.sums.specs.Panel.{per_segment, panel_lane}
use Rattle.sums.proofs.Rows.{counted_bytes}
use Rattle.sums.proofs.panel_row.Goals as goal

pub loop-e-preserved : goal.loop-e-preserved
loop-e-preserved c =
    let a = c.args in
    let number : ℕ = a.s * per_segment a.w + c.loop-e.e in
    c.put_lane.ensures
    ∙ begun_next segment_bytes a.w c.loop-e.e _ (panel_lane a.w a.predicate.now a.register.now a.s) c.loop-e.row
    (ap (bytes_of a.w) c.lane_value-n.ensures
    ∙ counted_bytes a.w c.requires.governs.most (active a.w number a.predicate.now) (lane a.w number a.register.now))
    c.loop-e.invariant
