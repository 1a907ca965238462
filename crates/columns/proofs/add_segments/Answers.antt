-- `add_segments` meets its contract: each half adds to the lanes of its places, and of whole segments the last half is an upper one.
-- Assumes nothing.
use Rattle.std.proofs.Common.{◌≡◌, ℕ, ◌*◌, ◌/◌, ◌%◌, length, sym, ap, ◌∙◌, ap₂, zero-mul, arith}
use Rattle.machine.specs.Size.{segment_bytes}
use Rattle.columns.specs.Added.{per_half, added_row}
use Rattle.columns.proofs.Halves.{two_halves}
use Rattle.columns.proofs.Adding.{added_none, added_all, half_added}
use Rattle.columns.proofs.add_segments.Goals as goal

pub loop-h-init : goal.loop-h-init
loop-h-init g c =
    let a = c.args in
    added_none g.row.W a.predicate.now a.register.now c.requires.fills
    ∙ ap (added_row g.row.W a.predicate.now a.register.now 0) (sym (zero-mul (per_half g.row.W)))

pub loop-h-preserved : goal.loop-h-preserved
loop-h-preserved g c =
    let r = c.requires in
    c.add_half.ensures ∙ half_added _ _ _ (per_half g.row.W) c.loop-h.h (two_halves _ r.governs.least r.governs.most r.fills)

pub returns : goal.returns
returns g c =
    let a = c.args in
    let size = length a.register.now in
    let whole : size % segment_bytes ≡ 0 = c.requires.segments.whole in
    let segments : c.loop-h.h / 2 ≡ size / segment_bytes = omega arith in
    let even : c.loop-h.h % 2 ≡ 0 = omega arith in
    c.loop-h.invariant
    ∙ ap₂ (added_row g.row.W a.predicate.now a.register.now) segments (ap (λ (i : ℕ). i * per_half g.row.W) even ∙ zero-mul (per_half g.row.W))
    ∙ added_all g.row.W a.predicate.now a.register.now (size / segment_bytes)
