-- `put_register` meets its contract: the register in hex, then the newline.
-- Assumes nothing.
use Rattle.digits.proofs.Puts.{put_then}
use Rattle.lines.proofs.put_register.Goals as goal

pub returns : goal.returns
returns c = put_then c.put_hex-end.ensures c.put.ensures
