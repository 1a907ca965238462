-- The sizes that a form allows.
use Rattle.std.specs.Prelude.{ℕ, ◌+◌, ◌*◌, Bool, not, cond, eqb, leb}
use Rattle.parts.specs.Part.{both}
use Rattle.rows.specs.declared.Form.{Form}
use Rattle.rows.specs.declared.Family.{Family}
use Rattle.rows.specs.declared.Family.TheVariants.{Low, Wide, Made}
use Rattle.rows.specs.declared.LowFamily.{LowFamily}
use Rattle.rows.specs.declared.LowFamily.TheVariants.{Reduction, Segment, Long}
use Rattle.rows.specs.declared.MadeFamily.{MadeFamily}
use Rattle.rows.specs.declared.MadeFamily.TheVariants.{Patterned, Cleared}

-- whether a size lies from the least to the most
abbrev pub within : ℕ → ℕ → ℕ → Bool
within least most size = both (leb least size) (leb size most)

-- the most size of a reduction: 64-bit elements are added unsigned only
abbrev pub most_reduced : Bool → ℕ
most_reduced signed = cond signed 2 3

-- the long families' sizes, as in the manual: `if size:Q == '100' then UNDEFINED; if size == '11' then UNDEFINED`
abbrev pub allows_long : ℕ → ℕ → Bool
allows_long q size = both (not (eqb (size * 2 + q) 0b100)) (not (eqb size 0b11))

-- the sizes of the families that write the low bytes
abbrev pub allows_low : LowFamily → Bool → ℕ → ℕ → Bool
allows_low Reduction signed q size = within 0 (most_reduced signed) size
allows_low Segment signed q size = within 0 3 size
allows_low Long signed q size = allows_long q size

-- the sizes of the families that make a predicate: any, or 0 alone where the word has none
abbrev pub allows_made : MadeFamily → ℕ → Bool
allows_made Patterned size = within 0 3 size
allows_made Cleared size = within 0 0 size

-- the sizes of a form
abbrev pub allows_family : Family → Bool → ℕ → ℕ → Bool
allows_family (Low low) signed q size = allows_low low signed q size
allows_family (Wide wide) signed q size = within 1 3 size
allows_family (Made made) signed q size = allows_made made size

abbrev pub allows : Form → ℕ → ℕ → Bool
allows form q size = allows_family form.family form.parameters.signed q size
