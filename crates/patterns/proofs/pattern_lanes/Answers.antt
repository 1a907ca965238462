-- `pattern_lanes` meets its contract: a case for each kind of pattern, told by the arm that leads there.
-- Assumes nothing.
use Rattle.std.proofs.Common.{◌∙◌, ap, arith}
use Rattle.patterns.specs.Lanes.{pattern_kind}
use Rattle.patterns.proofs.Patterns.{zero_kind, small_kind, large_kind, four_kind, three_kind, all_kind, other_kind, lanes_of_kind}
use Rattle.patterns.proofs.pattern_lanes.Goals as goal

pub returns-in-0 : goal.returns-in-0
returns-in-0 c = c.power_within.ensures ∙ lanes_of_kind _ _ (ap pattern_kind c.in-0.is ∙ zero_kind)

pub returns-in-29 : goal.returns-in-29
returns-in-29 c = c.multiple_within.ensures ∙ lanes_of_kind _ _ (ap pattern_kind c.in-29.is ∙ four_kind)

pub returns-in-30 : goal.returns-in-30
returns-in-30 c = c.multiple_within-in-30.ensures ∙ lanes_of_kind _ _ (ap pattern_kind c.in-30.is ∙ three_kind)

pub returns-in-31 : goal.returns-in-31
returns-in-31 c = lanes_of_kind _ _ (ap pattern_kind c.in-31.is ∙ all_kind)

pub returns-in-1-to-8 : goal.returns-in-1-to-8
returns-in-1-to-8 c = c.fixed_within.ensures ∙ lanes_of_kind _ _ (small_kind _ (omega arith) (omega arith))

pub returns-in-9-to-13 : goal.returns-in-9-to-13
returns-in-9-to-13 c =
    rw c.doubling_of.ensures at c.fixed_within-in-9-to-13.ensures
    ∙ lanes_of_kind _ _ (large_kind _ (omega arith) (omega arith))

pub returns-in_default : goal.returns-in_default
returns-in_default c =
    lanes_of_kind _ _ (other_kind _ (omega arith) (λ e. omega arith) (λ e. omega arith) (λ e. omega arith))
