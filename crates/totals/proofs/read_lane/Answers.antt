-- `read_lane` meets its contract: past the check the lane lies in its register and its bit in the predicate register.
-- Assumes nothing.
use Rattle.std.proofs.Common.{ℕ, ◌*◌, ap, sym, arith}
use Rattle.registers.specs.declared.Kind.TheVariants.{Vector}
use Rattle.registers.proofs.Places.{register_inside, file_few}
use Rattle.totals.proofs.Accepted.{source_in, whole_segments}
use Rattle.totals.proofs.OneLane.{lane_accepted, lane_in, bit_in}
use Rattle.totals.proofs.read_lane.Goals as goal

pub overflow_add-start : goal.overflow_add-start
overflow_add-start c =
    let a = c.args in
    let h = lane_accepted a.k a.z.now a.p.now a.source a.predicate a.size a.e (sym c.in_ok-files.ensures.number) in
    let source = source_in _ _ _ _ _ _ h.0 in
    let inside = register_inside a.k Vector a.source a.z.now source in
    let bit = ap (λ (n : ℕ). a.e * n) c.width_of-w.ensures in
    let at = rw c.in_ok-files.ensures.files.0 at c.register_at.ensures in
    record {
      fits = omega (arith, at, bit, inside, source.sized, file_few a.k Vector source.legal, (lane_in _ _ _ _ _ _ _ h.0 h.1).inside, (whole_segments _ _ _ _ _ _ h.0).few);
    }

pub element_at-requires : goal.element_at-requires
element_at-requires c =
    let lent = c.in_ok-files.ensures.files in
    let h = lane_accepted _ _ _ _ _ _ _ (sym c.in_ok-files.ensures.number) in
    rw (c.width_of-w.ensures, c.register-register.ensures, lent.0, lent.1) (lane_in _ _ _ _ _ _ _ h.0 h.1)

pub is_active-requires : goal.is_active-requires
is_active-requires c =
    let lent = c.in_ok-files.ensures.files in
    let h = lane_accepted _ _ _ _ _ _ _ (sym c.in_ok-files.ensures.number) in
    rw (c.width_of-w.ensures, c.register-governing.ensures, lent.0, lent.2) (bit_in _ _ _ _ _ _ _ h.0 h.1)
