-- The rest has no more digits than are left, and each turn counts one.
use Rattle.std.proofs.Common.{arith}
use Rattle.digits.proofs.Decimals.{counted_first, counted_next, counted_last}
use Rattle.digits.proofs.decimal_width.Goals as goal

pub loop-rest-init : goal.loop-rest-init
loop-rest-init c = counted_first c.args.n (omega arith)

pub loop-rest-preserved : goal.loop-rest-preserved
loop-rest-preserved c = counted_next c.args.n c.loop-rest.rest c.loop-rest.count c.loop-rest.invariant (omega arith)

pub returns : goal.returns
returns c = counted_last c.args.n c.loop-rest.rest c.loop-rest.count c.loop-rest.invariant (omega arith)
