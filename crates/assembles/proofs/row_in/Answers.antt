-- `row_in` meets its contract: the place past the last row stands for none.
-- Assumes nothing.
use Rattle.std.proofs.Common.{ℕ, Option, ◌∙◌, ap}
use Rattle.std.specs.Option.{unwrap_or}
use Rattle.rows.specs.Table.{rows}
use Rattle.names.proofs.Keys.{row_else}
use Rattle.assembles.proofs.row_in.Goals as goal

pub returns : goal.returns
returns c = c.unwrap_or.ensures ∙ ap (λ (row : Option ℕ). unwrap_or row rows) c.row_named.ensures ∙ row_else c.args.text.now
