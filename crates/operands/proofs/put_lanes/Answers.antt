-- `put_lanes` meets its contract: the point, the count and the letter, one after the other.
-- Assumes nothing.
use Rattle.digits.proofs.Puts.{put_then}
use Rattle.operands.proofs.put_lanes.Goals as goal

pub returns : goal.returns
returns c = rw (← c.letter_of.ensures) (put_then (put_then c.put-next.ensures c.put_decimal-last.ensures) c.put.ensures)
