-- `put_refused` meets its contract: the lead, then the word.
-- Assumes nothing.
use Rattle.digits.proofs.Puts.{put_then}
use Rattle.lines.proofs.put_refused.Goals as goal

pub returns : goal.returns
returns c = put_then c.put_lead-at.ensures c.put_word.ensures
