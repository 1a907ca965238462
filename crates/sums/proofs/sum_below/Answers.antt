-- Each turn adds what one number more adds.
use Rattle.std.proofs.Common.{ℕ, ◌+◌, ◌%◌, ◌^◌, sym, ap, ◌∙◌, ap₂, add-one}
use Rattle.lanes.specs.Integer.{residue}
use Rattle.lanes.specs.Sum.{each, total}
use Rattle.sums.proofs.Ranges.{sum_suc}
use Rattle.sums.proofs.sum_below.Goals as goal

pub loop-e-preserved : goal.loop-e-preserved
loop-e-preserved g c f adds =
    let l = c.loop-e in
    ap₂ (λ (m n : ℕ). (m + n) % 2 ^ 64) (l.invariant f adds) (adds l.e c.adds-sum.result c.loop-e-test.true c.adds-sum.ensures)
    ∙ sym (sum_suc 64 f l.e)
    ∙ ap (λ (n : ℕ). residue 64 (total (each f 0 n))) (sym (add-one l.e))
