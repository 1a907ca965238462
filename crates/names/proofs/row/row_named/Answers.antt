-- `row_named` meets its contract: the first six bytes are all of fewer, and the place of their line is the row.
-- Assumes nothing.
use Rattle.std.proofs.Common.{ℕ, List, ◌∙◌, ap, take}
use Rattle.std.proofs.lemmas.List.{take_min}
use Rattle.std.specs.List.{position}
use Rattle.parts.specs.Part.{same_bytes}
use Rattle.rows.specs.Table.{name_bytes, line_name, table}
use Rattle.rows.specs.declared.Row.{Row}
use Rattle.names.proofs.Keys.{row_placed}
use Rattle.names.proofs.row.row_named.Goals as goal

pub returns : goal.returns
returns c =
    let text = c.args.text.now in
    c.place_of.ensures
    ∙ ap (λ (name : List ℕ). position (λ (line : Row). same_bytes (line_name line) name) table)
    (ap (λ (n : ℕ). take n text) c.min.ensures ∙ take_min name_bytes text)
    ∙ row_placed text
