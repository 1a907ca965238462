-- Sixteen rows of the table, from row 7 on, are the widening words, each as its four parameters say: name, value, operation and elements.
-- Assumes nothing.
use mathlib.Core.Path.{◌≡◌, refl}
use lib.ListN.{take, drop}
use Rattle.rows.specs.Table.{table}
use Rattle.rows.specs.Widening.{widening_rows}

pub widening_rows_lem : take 16 (drop 7 table) ≡ widening_rows
widening_rows_lem = refl
