-- Each public call's contract allows one result.
-- Assumes nothing.
use mathlib.Core.Path.{◌≡◌}
use mathlib.Core.List.{List}
use Prim.Native.Nat.{ℕ}
use Rattle.std.specs.Prelude.{Option}
use Rattle.machine.proofs.Tests.{one_result}
use Rattle.parts.specs.Found.{found}
use Rattle.rows.specs.Table.{table, rows, row_at, row_of, family_of, form_of}
use Rattle.rows.specs.declared.Row.{Row}
use Rattle.rows.specs.declared.Family.{Family}
use Rattle.rows.specs.declared.Form.{Form}

pub table_determined : (r s : List Row) → r ≡ table → s ≡ table → r ≡ s
table_determined = one_result table

pub row_at_determined : (i : ℕ) (r s : Row) → r ≡ row_at i → s ≡ row_at i → r ≡ s
row_at_determined i = one_result (row_at i)

pub family_of_determined : (i : ℕ) (r s : Family) → r ≡ family_of i → s ≡ family_of i → r ≡ s
family_of_determined i = one_result (family_of i)

pub form_of_determined : (i : ℕ) (r s : Form) → r ≡ form_of i → s ≡ form_of i → r ≡ s
form_of_determined i = one_result (form_of i)

-- the place of the row that a word is of is one number
pub row_place_determined : (word r s : ℕ) → r ≡ row_of word → s ≡ row_of word → r ≡ s
row_place_determined word = one_result (row_of word)

pub row_of_determined : (word : ℕ) (r s : Option ℕ) → r ≡ found rows (row_of word) → s ≡ found rows (row_of word) → r ≡ s
row_of_determined word = one_result (found rows (row_of word))
