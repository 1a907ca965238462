-- In each arm the width is the arm's number, in the last the one that is left.
use Rattle.std.proofs.Common.{◌≡◌, ℕ, List, arith}
use Rattle.parts.proofs.Same.{of_arm}
use Rattle.lanes.specs.Lane.{from_lanes}
use Rattle.sums.specs.Panel.{per_segment, column_sum}
use Rattle.columns.proofs.Halves.{last_width}
use Rattle.columns.proofs.segment_sums.Goals as goal

-- the sums over what is lent, in lanes of any width
abbrev sums_at : List ℕ → List ℕ → ℕ → List ℕ
sums_at predicate register w = from_lanes w 0 (per_segment w) (column_sum w predicate register)

pub returns-in-1 : goal.returns-in-1
returns-in-1 c = of_arm (sums_at c.args.predicate.now c.args.register.now) _ 1 _ c.in-1.is c.add_segments.ensures

pub returns-in-4 : goal.returns-in-4
returns-in-4 c = of_arm (sums_at c.args.predicate.now c.args.register.now) _ 4 _ c.in-4.is c.add_segments-in-4.ensures

pub returns-in_default : goal.returns-in_default
returns-in_default c =
    let h = c.requires in
    let last : c.args.w ≡ 8 =
    last_width _ h.governs.least h.governs.most h.fills (λ e. omega arith) (λ e. omega arith) (λ e. omega arith) in
    of_arm (sums_at c.args.predicate.now c.args.register.now) _ 8 _ last c.add_segments-in_default.ensures
