-- `row_at` meets its contract: past the last row is the row that stands for none, and a turn takes the row at its place.
-- Assumes nothing.
use Rattle.std.proofs.Common.{◌∙◌, ap, arith}
use Rattle.rows.specs.Table.{row_at}
use Rattle.rows.proofs.Rows.{row_past, row_read}
use Rattle.rows.proofs.row_at.Goals as goal

pub loop-j-init : goal.loop-j-init
loop-j-init c = row_past _ (omega arith)

pub loop-j-preserved-then-i-j : goal.loop-j-preserved-then-i-j
loop-j-preserved-then-i-j c = row_read _ _ _ c.table-lines.ensures (omega arith) ∙ ap row_at (omega arith)
