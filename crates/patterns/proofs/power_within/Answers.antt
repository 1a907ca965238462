-- `power_within` meets its contract: each turn doubles the power, and the last power's double is above the count.
-- Assumes nothing.
use Rattle.std.proofs.Common.{arith}
use Rattle.patterns.proofs.Powers.{leads_first, leads_next, leads_last}
use Rattle.patterns.proofs.power_within.Goals as goal

pub loop-power-init : goal.loop-power-init
loop-power-init c = leads_first _

pub loop-power-preserved : goal.loop-power-preserved
loop-power-preserved c = leads_next _ _ c.loop-power.invariant (omega arith)

pub returns : goal.returns
returns c = leads_last _ _ c.loop-power.invariant (omega arith)
