-- What a word does to the state: its destination's bytes become what its form says, all others stay.
use Rattle.std.specs.Prelude.{ℕ, ◌+◌, ◌*◌, ◌/◌, List, ℤ}
use Rattle.machine.specs.Size.{vector_bytes, predicate_bytes}
use Rattle.parts.specs.Number.{with_number}
use Rattle.registers.specs.Register.{Register, register_from, vector, predicate, register_at, padded}
use Rattle.registers.specs.declared.Kind.{Kind}
use Rattle.registers.specs.declared.Kind.TheVariants.{Vector, Predicate}
use Rattle.registers.specs.State.{State, read, write}
use Rattle.lanes.specs.Lane.{width_of}
use Rattle.lanes.specs.Integer.{residue}
use Rattle.rows.specs.Table.{form_of, family_of}
use Rattle.rows.specs.declared.Family.{Family}
use Rattle.rows.specs.declared.Family.TheVariants.{Low, Wide, Made}
use Rattle.rows.specs.declared.MadeFamily.{MadeFamily}
use Rattle.rows.specs.declared.MadeFamily.TheVariants.{Patterned, Cleared}
use Rattle.patterns.specs.Lanes.{pattern_lanes}
use Rattle.made.specs.Made.{made_bytes}
use Rattle.words.specs.declared.Fields.{Fields}
use Rattle.meaning.specs.Terms.{Operands, Source, Operand1, Operand2, Old, Term, sum_of}
use Rattle.meaning.specs.Meaning.{family_terms, width_after, lanes_after, family_written}

-- the kind of register that a family writes
abbrev pub kind_written : Family → Kind
kind_written (Low low) = Vector
kind_written (Wide wide) = Vector
kind_written (Made made) = Predicate

-- the register that a word writes
unfoldable pub target_of : Fields → Register
target_of f = register_from (kind_written (family_of f.row)) f.d

-- the register that an operand is
unfoldable pub source_of : Fields → Source → Register
source_of f Operand1 = vector f.n
source_of f Operand2 = vector f.m
source_of f Old = vector f.d

-- the predicate that governs a word
unfoldable pub governing_of : Fields → Register
governing_of f = predicate f.g

-- what these registers hold
abbrev pub operands_of : Fields → ℕ → State → Operands
operands_of f k s = record {
  operand1 = read k (source_of f Operand1) s;
  operand2 = read k (source_of f Operand2) s;
  old = read k (source_of f Old) s;
}

abbrev pub mask_of : Fields → ℕ → State → List ℕ
mask_of f k s = read k (governing_of f) s

-- what feeds lane e of its destination under a mask, and the exact integer that this makes
abbrev pub feeds : Fields → ℕ → List ℕ → ℕ → List Term
feeds f k mask e = family_terms (family_of f.row) (form_of f.row).parameters (width_of f.size) f.q (vector_bytes k) mask e

abbrev pub integer_after : Fields → ℕ → State → ℕ → ℤ
integer_after f k s e = sum_of (operands_of f k s) (feeds f k (mask_of f k s) e)

-- the bytes of each lane that it writes, and how many lanes that are
abbrev pub width_for : Fields → ℕ
width_for f = width_after (family_of f.row) (width_of f.size)

abbrev pub lanes_for : Fields → ℕ → ℕ
lanes_for f k = lanes_after (family_of f.row) (width_of f.size) (vector_bytes k)

-- the bytes of these lanes
abbrev pub written_for : Fields → ℕ → State → List ℕ
written_for f k s = family_written (family_of f.row) (width_of f.size) (vector_bytes k) (operands_of f k s) (feeds f k (mask_of f k s))

-- how many lanes of its size a vector has, and how many of so many a word makes active: as its pattern names, or none
abbrev pub lane_count : Fields → ℕ → ℕ
lane_count f k = vector_bytes k / width_of f.size

abbrev pub lanes_made : MadeFamily → ℕ → ℕ → ℕ
lanes_made Patterned pattern count = pattern_lanes pattern count
lanes_made Cleared pattern count = 0

-- the predicate that it makes of them
abbrev pub made_for : MadeFamily → Fields → ℕ → List ℕ
made_for made f k = made_bytes (predicate_bytes k) f.size (lanes_made made f.pattern (lane_count f k))

-- the new bytes of its destination: of a vector the lanes that are written, and zeros above; of a predicate what is made
abbrev pub destination_for : Family → Fields → ℕ → State → List ℕ
destination_for (Low low) f k s = padded (vector_bytes k) (written_for f k s)
destination_for (Wide wide) f k s = padded (vector_bytes k) (written_for f k s)
destination_for (Made made) f k s = made_for made f k

abbrev pub destination_after : Fields → ℕ → State → List ℕ
destination_after f k s = destination_for (family_of f.row) f k s

-- what is written: a register, and its new bytes
pub record Effect : Type 0 where
  pub target : Register
  pub bytes : List ℕ

-- what a word writes
unfoldable pub effect_of : Fields → ℕ → State → Effect
effect_of f k s = record { target = target_of f; bytes = destination_after f k s }

-- the state with that written
abbrev pub effected : ℕ → Effect → State → State
effected k effect s = write k effect.target effect.bytes s

-- the state after a word: its destination register is written, all else stays
abbrev pub executed : Fields → ℕ → State → State
executed f k s = effected k (effect_of f k s) s

-- the vector file with lane e of its destination written, from the registers as they stand
abbrev pub lane_written : Fields → ℕ → ℕ → State → List ℕ
lane_written f k e s = with_number (register_at k Vector f.d + e * width_of f.size) (width_of f.size) (residue 64 (integer_after f k s e)) s.z
