-- `put_operand` meets its contract: the letter, the number and the suffix, one after the other.
-- Assumes nothing.
use Rattle.digits.proofs.Puts.{put_then}
use Rattle.operands.proofs.put_operand.Goals as goal

pub returns : goal.returns
returns c = put_then (put_then c.put-number.ensures c.put_decimal-after.ensures) c.put_suffix.ensures
