-- `put_accepted` meets its contract: the lead, the text and the register, one after the other.
-- Assumes nothing.
use Rattle.digits.proofs.Puts.{put_then}
use Rattle.lines.proofs.put_accepted.Goals as goal

pub returns : goal.returns
returns c = put_then (put_then c.put_lead-text.ensures c.put_text-at.ensures) c.put_register.ensures
