-- `key_of` meets its contract: the six bytes are a part of the row.
-- Assumes nothing.
use Rattle.std.proofs.Common.{◌≡◌, sym, ◌∙◌, ap, length}
use Rattle.rows.specs.Table.{line_name}
use Rattle.names.specs.Text.{key_of}
use Rattle.names.proofs.Keys.{row_good_lem}
use Rattle.names.proofs.row.key_of.Goals as goal

pub returns : goal.returns
unfolding key_of
returns c =
    let is : line_name c.row_at-entry.result ≡ key_of c.args.row = ap line_name c.row_at-entry.ensures in
    record { is = is; size = sym (ap length is ∙ (row_good_lem _ c.requires).key) }
