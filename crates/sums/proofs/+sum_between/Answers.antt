-- The sum of a range is the sum modulo 2^64 of its halves' sums, and the halves meet at the middle.
use Rattle.std.proofs.Common.{ℕ, ◌+◌, ◌-◌, ◌/◌, ◌%◌, ◌^◌, sym, ◌∙◌, ap₂, arith}
use Rattle.lanes.specs.Sum.{active_element}
use Rattle.sums.proofs.Ranges.{sum_split}
use Rattle.sums.proofs.+sum_between.Goals as goal

pub returns : goal.returns
returns t c =
    let a = c.args in
    ap₂ (λ (m n : ℕ). (m + n) % 2 ^ 64) c.sum_between-low.ensures c.sum_between-high.ensures
    ∙ sym (sum_split 64 (active_element a.signed a.w a.predicate.now a.register.now) a.a (a.a + (a.b - a.a) / 2) a.b (omega arith) (omega arith))
