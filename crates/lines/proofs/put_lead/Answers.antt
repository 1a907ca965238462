-- `put_lead` meets its contract: the position, then the number.
-- Assumes nothing.
use Rattle.digits.proofs.Puts.{put_then}
use Rattle.lines.proofs.put_lead.Goals as goal

pub returns : goal.returns
returns c = put_then c.put_field-at.ensures c.put_field.ensures
