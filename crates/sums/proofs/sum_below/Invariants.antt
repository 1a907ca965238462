-- The invariant of `sum_below`: the sum so far is that of what the numbers passed add.
use Rattle.std.proofs.Common.{◌≡◌, ℕ, ◌<◌, ℤ}
use Rattle.lanes.specs.Integer.{residue}
use Rattle.lanes.specs.Sum.{each, total}
use Rattle.sums.proofs.sum_below.Given as goal

abbrev pub invariant-loop-e : goal.invariant-loop-e
invariant-loop-e g l =
    (f : ℕ → ℤ) → ((e n : ℕ) → e < l.count → goal.F-post g l.adds e n → n ≡ residue 64 (f e)) → l.sum ≡ residue 64 (total (each f 0 l.e))
