-- `fixed_within` meets its contract: the test is that of the definition.
-- Assumes nothing.
use Rattle.std.proofs.Common.{sym}
use Rattle.patterns.proofs.Largest.{fixed_exact}
use Rattle.patterns.proofs.fixed_within.Goals as goal

pub returns-then-n-count : goal.returns-then-n-count
returns-then-n-count c = sym ((fixed_exact _ _).0 c.if-n-count.true)

pub returns-else-n-count : goal.returns-else-n-count
returns-else-n-count c = sym ((fixed_exact _ _).1 c.if-n-count.false)
