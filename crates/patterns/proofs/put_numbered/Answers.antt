-- `put_numbered` meets its contract: two pieces written one after the other.
-- Assumes nothing.
use Rattle.digits.proofs.Puts.{put_then}
use Rattle.patterns.proofs.put_numbered.Goals as goal

pub returns : goal.returns
returns c = put_then c.put_bytes-next.ensures c.put_decimal.ensures
