-- `panel` meets its contract: past the check the register has whole segments, which its lanes fill, and the predicate governs it.
-- Assumes nothing.
use Rattle.std.proofs.Common.{sym}
use Rattle.sums.proofs.Widths.{width_legal}
use Rattle.totals.proofs.Accepted.{panel_accepted, governs, whole_segments}
use Rattle.totals.proofs.panel.Goals as goal

pub panel_of-requires : goal.panel_of-requires
panel_of-requires c =
    let a = c.args in
    let lent = c.in-Ok.ensures.files in
    let h = panel_accepted a.k a.z.now a.p.now a.source a.governing a.size (sym c.in-Ok.ensures.number) in
    rw (c.width_of.ensures, c.register-predicate.ensures, c.register-register.ensures, lent.0, lent.1, lent.2)
    (record { governs = governs _ _ _ _ _ _ h; fills = (width_legal _ h.size_is).2; segments = whole_segments _ _ _ _ _ _ h })
