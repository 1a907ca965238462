-- The number that a lane holds.
-- Assumes nothing.
use Rattle.std.proofs.Common.{ℕ, ◌*◌, ◌^◌, ◌<◌, List}
use Rattle.parts.specs.Number.{bits_of, AreBytes}
use Rattle.parts.proofs.Numbers.{number_below}
use Rattle.lanes.specs.Lane.{lane}

-- a lane of w bytes holds a number below 2^(8w)
pub lane_lt : (w e : ℕ) (register : List ℕ) → AreBytes register → lane w e register < 2 ^ bits_of w
lane_lt w e register h = number_below (e * w) w register h
