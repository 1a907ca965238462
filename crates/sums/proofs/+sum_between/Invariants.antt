-- The measure of `sum_between`, which calls itself on both halves of its range: the range's lanes, of which each half has fewer.
use Rattle.std.proofs.Common.{◌-◌}
use Rattle.sums.proofs.+sum_between.Given as goal

abbrev pub decreases-sum_between : goal.decreases-sum_between
decreases-sum_between l = l.b - l.a
