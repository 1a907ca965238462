-- One lane adds up to what it adds, and the second adds one lane more.
use Rattle.std.proofs.Common.{◌≡◌, ℕ, ◌+◌, ◌%◌, ◌^◌, sym, ap, ◌∙◌, ap₂, arith}
use Rattle.lanes.specs.Sum.{active_element}
use Rattle.sums.proofs.Ranges.{range_sum, sum_one, sum_next}
use Rattle.sums.proofs.sum_few.Goals as goal

pub returns : goal.returns
returns c =
    let a = c.args in
    let adds = active_element a.signed a.w a.predicate.now a.register.now in
    let two : a.a + 1 + 1 ≡ a.b = omega arith in
    ap₂ (λ (m n : ℕ). (m + n) % 2 ^ 64) (c.lane_value-first.ensures ∙ sym (sum_one 64 adds a.a)) c.lane_value-second.ensures
    ∙ sym (sum_next 64 adds a.a (a.a + 1) (omega arith))
    ∙ ap (range_sum 64 adds a.a) two
