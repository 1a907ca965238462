-- The low bytes of a sum do not see where 64 digits come round.
-- Assumes nothing.
use Rattle.std.proofs.Common.{ℕ, ◌+◌, ◌%◌, ◌^◌, ap, ◌∙◌}
use Rattle.lanes.specs.Lane.{with_lane}
use Rattle.columns.proofs.Adding.{wrapped_lane}
use Rattle.columns.proofs.add_lane.Goals as goal

pub returns : goal.returns
returns c =
    let a = c.args in
    c.put_lane.ensures
    ∙ ap (λ (old : ℕ). with_lane a.w a.e ((old + a.n) % 2 ^ 64) a.row.now) c.lane-old.ensures
    ∙ wrapped_lane a.w a.e _ a.row.now c.requires.narrow
