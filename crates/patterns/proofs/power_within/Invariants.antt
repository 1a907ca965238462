-- The invariant of `power_within`: doubling leads from the power at hand to the largest. The measure is what is left of the count.
-- Assumes nothing.
use Rattle.std.proofs.Common.{◌-◌}
use Rattle.patterns.proofs.Powers.{Leads}
use Rattle.patterns.proofs.power_within.Given as goal

abbrev pub invariant-loop-power : goal.invariant-loop-power
invariant-loop-power l = Leads l.count l.power

abbrev pub decreases-loop-power : goal.decreases-loop-power
decreases-loop-power l = l.count - l.power
