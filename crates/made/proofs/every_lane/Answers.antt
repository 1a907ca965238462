-- The last arm's size is 3.
use Rattle.std.proofs.Common.{◌≡◌, refl, arith}
use Rattle.made.specs.Made.{made_byte}
use Rattle.made.proofs.every_lane.Goals as goal

pub returns-in_default : goal.returns-in_default
unfolding made_byte
returns-in_default c = let last : c.args.size ≡ 3 = omega arith in rw last refl
