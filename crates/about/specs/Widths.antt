-- The bytes of the lanes that a row's words read and write, by their size.
use Rattle.std.specs.Prelude.{ℕ, ◌*◌, ◌/◌, Bool, cond, List, [], ◌∷◌}
use Rattle.lanes.specs.Lane.{width_of}
use Rattle.rows.specs.declared.Form.{Form}
use Rattle.rows.specs.declared.Family.{Family}
use Rattle.rows.specs.declared.Family.TheVariants.{Low, Wide, Made}
use Rattle.rows.specs.declared.LowFamily.{LowFamily}
use Rattle.rows.specs.declared.LowFamily.TheVariants.{Reduction, Segment, Long}
use Rattle.rows.specs.declared.WideFamily.{WideFamily}
use Rattle.rows.specs.declared.WideFamily.TheVariants.{Pairwise, Widening}
use Rattle.words.specs.Sizes.{allows}
use Rattle.cores.specs.Need.{either}
use Rattle.about.specs.declared.Operand.{Operand}
use Rattle.about.specs.declared.Operand.TheVariants.{First, Second, Destination}

-- of a word whose elements have w bytes: the bytes of a lane of its first source, of its second, and of its destination; 0 where there is none
abbrev pub low_bytes : LowFamily → Operand → ℕ → ℕ
low_bytes low First w = w
low_bytes low Second w = 0
low_bytes Reduction Destination w = 8
low_bytes Segment Destination w = w
low_bytes Long Destination w = 2 * w

abbrev pub wide_bytes : WideFamily → Bool → Operand → ℕ → ℕ
wide_bytes Pairwise wide First w = w / 2
wide_bytes Pairwise wide Second w = 0
wide_bytes Pairwise wide Destination w = w
wide_bytes Widening wide First w = cond wide w (w / 2)
wide_bytes Widening wide Second w = w / 2
wide_bytes Widening wide Destination w = w

-- of a word that makes a predicate: it has no source, and a bit of what it makes governs a lane of w bytes
abbrev pub made_lane_bytes : Operand → ℕ → ℕ
made_lane_bytes First w = 0
made_lane_bytes Second w = 0
made_lane_bytes Destination w = w

abbrev pub family_bytes : Family → Bool → Operand → ℕ → ℕ
family_bytes (Low low) wide operand w = low_bytes low operand w
family_bytes (Wide family) wide operand w = wide_bytes family wide operand w
family_bytes (Made made) wide operand w = made_lane_bytes operand w

-- whether a form allows a size, with some Q
abbrev pub allows_some : Form → ℕ → Bool
allows_some form size = either (allows form 0 size) (allows form 1 size)

-- the bytes of an operand's lanes at a size; 0 where the form does not allow it
abbrev pub bytes_at : Form → Operand → ℕ → ℕ
bytes_at form operand size = cond (allows_some form size) (family_bytes form.family form.parameters.wide operand (width_of size)) 0

-- for sizes 0 to 3
abbrev pub bytes_by_size : Form → Operand → List ℕ
bytes_by_size form operand = bytes_at form operand 0 ∷ bytes_at form operand 1 ∷ bytes_at form operand 2 ∷ bytes_at form operand 3 ∷ []
