-- `subtotal` meets its contract: past the check the lanes of the range lie within the register.
-- Assumes nothing.
use Rattle.std.proofs.Common.{sym}
use Rattle.totals.proofs.Accepted.{subtotal_accepted, governs, lanes_within}
use Rattle.totals.proofs.subtotal.Goals as goal

pub sum_between-requires : goal.sum_between-requires
sum_between-requires c =
    let a = c.args in
    let lent = c.in_ok-files.ensures.files in
    let h = subtotal_accepted a.k a.z.now a.p.now a.source a.governing a.size a.a a.b (sym c.in_ok-files.ensures.number) in
    rw (c.width_of-w.ensures, c.register-predicate.ensures, c.register-register.ensures, lent.0, lent.1, lent.2)
    (record { governs = governs _ _ _ _ _ _ h.0; ordered = h.1; inside = lanes_within _ _ _ _ _ _ h.0 _ h.2 })
