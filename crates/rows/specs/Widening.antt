-- The sixteen widening words by their four parameters: each has a digit of the value and a letter, or three, of the name.
use Rattle.std.specs.Prelude.{ℕ, ◌+◌, ◌^◌, Bool, true, false, cond, List, [], ◌∷◌, ◌++◌}
use Rattle.parts.specs.Text.{bytes}
use Rattle.rows.specs.Table.{form_for}
use Rattle.rows.specs.declared.Row.{Row}
use Rattle.rows.specs.declared.Parameters.{Parameters}
use Rattle.rows.specs.declared.Operation.{Operation}
use Rattle.rows.specs.declared.Operation.TheVariants.{AddLong, SubLong, AddWide, SubWide}

-- a widening word's name: s or u, add or sub, l or w, b or t
abbrev pub widening_name : Parameters → List ℕ
widening_name ps =
    cond ps.signed (bytes "s") (bytes "u")
    ++ cond ps.subtract (bytes "sub") (bytes "add")
    ++ cond ps.wide (bytes "w") (bytes "l")
    ++ cond ps.top (bytes "t") (bytes "b")

-- a widening word's value: digit 14 for wide, 12 for a subtraction, 11 for unsigned, 10 for the top
abbrev pub widening_value : Parameters → ℕ
widening_value ps =
    0x45000000 + cond ps.wide (2 ^ 14) 0 + cond ps.subtract (2 ^ 12) 0 + cond ps.signed 0 (2 ^ 11) + cond ps.top (2 ^ 10) 0

-- the table's line of a widening operation over elements
abbrev pub widening_row : Operation → Bool → Bool → Row
widening_row operation signed top =
    let ps = (form_for operation signed top).parameters in
    (widening_name ps, 0xFF20FC00, widening_value ps, operation, signed, top)

-- the four lines of a widening operation, and those of all four operations, in the order of the values
abbrev pub four_rows : Operation → List Row
four_rows operation =
    widening_row operation true false
    ∷ widening_row operation true true
    ∷ widening_row operation false false
    ∷ widening_row operation false true
    ∷ []

abbrev pub widening_rows : List Row
widening_rows = four_rows AddLong ++ four_rows SubLong ++ four_rows AddWide ++ four_rows SubWide
