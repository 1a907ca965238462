-- The digits counted and those of the rest are all digits, one of them counted twice.
use Rattle.digits.proofs.Decimals.{Counted}
use Rattle.digits.proofs.decimal_width.Given as goal

abbrev pub invariant-loop-rest : goal.invariant-loop-rest
invariant-loop-rest l = Counted l.n l.rest l.count

abbrev pub decreases-loop-rest : goal.decreases-loop-rest
decreases-loop-rest l = l.rest
