-- `put_field` meets its contract: the digits, then the byte.
-- Assumes nothing.
use Rattle.digits.proofs.Puts.{put_then}
use Rattle.lines.proofs.put_field.Goals as goal

pub returns : goal.returns
returns c = put_then c.put_decimal-end.ensures c.put.ensures
