-- `multiple_within` meets its contract: it computes the definition.
-- Assumes nothing.
use Rattle.std.proofs.Common.{refl}
use Rattle.patterns.specs.Lanes.{multiple_within}
use Rattle.patterns.proofs.multiple_within.Goals as goal

pub returns : goal.returns
unfolding multiple_within
returns c = refl
