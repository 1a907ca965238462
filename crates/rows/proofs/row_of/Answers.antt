-- `row_of` meets its contract: the first line that matches is at the place that the definition finds.
-- Assumes nothing.
use Rattle.std.proofs.Common.{◌∙◌}
use Rattle.rows.proofs.Rows.{row_sought}
use Rattle.rows.proofs.row_of.Goals as goal

pub returns : goal.returns
returns c = c.first_match.ensures ∙ row_sought _ _ c.table.ensures
