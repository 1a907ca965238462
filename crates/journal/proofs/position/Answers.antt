-- `position` meets its contract: past the check the journal is well formed, and its position is the answer.
use Rattle.std.proofs.Common.{sym}
use Rattle.journal.proofs.Accepted.{position_accepted}
use Rattle.journal.proofs.position.Goals as goal

pub position_of-requires : goal.position_of-requires
position_of-requires c = (position_accepted _ _ (sym c.in_ok-check_position.ensures.number)).formed.least
