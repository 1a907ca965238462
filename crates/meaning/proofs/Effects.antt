-- What a word reads and writes: the registers that its fields name, what they hold, and what is left once its effect is written. These laws alone
-- open the names, so that all else stands on them.
-- Assumes nothing.
use Prim.Native.Nat.{ℕ, ◌^◌, ◌<◌}
use mathlib.Core.Path.{◌≡◌, refl, sym, ◌∙◌, ap, ap₂}
use mathlib.Core.List.{List}
use native.Mathlib.Omega.{arith}
use lib.ListN.{length}
use Rattle.machine.specs.Size.{vectors, vector_bytes}
use Rattle.registers.specs.declared.Kind.{Kind}
use Rattle.registers.specs.declared.Kind.TheVariants.{Vector}
use Rattle.registers.specs.Register.{Register, register_from, vector, predicate, IsRegister, register_count, register_bytes, register_of}
use Rattle.registers.specs.Register.{vector_of, predicate_of, with_register, with_vector}
use Rattle.registers.specs.State.{State, state, Sized, contents, with_contents, read, write}
use Rattle.registers.proofs.States.{length_read, write_sized, read_write}
use Rattle.rows.specs.Table.{family_of}
use Rattle.rows.specs.declared.Family.{Family}
use Rattle.rows.specs.declared.Family.TheVariants.{Low, Wide, Made}
use Rattle.words.specs.Field.{destination_digits}
use Rattle.words.specs.declared.Fields.{Fields}
use Rattle.words.proofs.Decoding.{governing_below, destination_in, source_in}
use Rattle.meaning.specs.Terms.{Source, Operand1, Operand2, Old, operand_of}
use Rattle.meaning.specs.Execute.{kind_written, target_of, source_of, governing_of, operands_of, mask_of, destination_after, effect_of, executed}
use Rattle.meaning.specs.Needs.{Executable}
use Rattle.meaning.proofs.Sizes.{second_most, length_destination}

-- the field that names an operand
abbrev pub source_field : Fields → Source → ℕ
source_field f Operand1 = f.n
source_field f Operand2 = f.m
source_field f Old = f.d

-- the registers, by the fields
pub target_is : (f : Fields) → target_of f ≡ register_from (kind_written (family_of f.row)) f.d
unfolding target_of
target_is f = refl

-- by the kind that the family writes
pub target_of_kind : (f : Fields) (kind : Kind) → kind_written (family_of f.row) ≡ kind → target_of f ≡ register_from kind f.d
target_of_kind f kind is = target_is f ∙ ap (λ (t : Kind). register_from t f.d) is

pub source_is : (f : Fields) (source : Source) → source_of f source ≡ vector (source_field f source)
unfolding source_of
source_is f Operand1 = refl
source_is f Operand2 = refl
source_is f Old = refl

pub governing_is : (f : Fields) → governing_of f ≡ predicate f.g
unfolding governing_of
governing_is f = refl

-- the old operand of a word that writes a vector is that vector
pub old_is_target : (f : Fields) → kind_written (family_of f.row) ≡ Vector → source_of f Old ≡ target_of f
old_is_target f is = source_is f Old ∙ sym (target_of_kind f Vector is)

module _ (f : Fields) (k : ℕ) (s : State) where
  -- what the destination, the operands and the mask are
  pub target_bytes : read k (target_of f) s ≡ register_of k (kind_written (family_of f.row)) f.d (contents (kind_written (family_of f.row)) s)
  target_bytes = ap (λ (r : Register). read k r s) (target_is f)

  pub operand_is : (source : Source) → operand_of (operands_of f k s) source ≡ read k (source_of f source) s
  operand_is Operand1 = refl
  operand_is Operand2 = refl
  operand_is Old = refl

  pub operand_bytes : (source : Source) → operand_of (operands_of f k s) source ≡ vector_of k (source_field f source) s.z
  operand_bytes source = operand_is source ∙ ap (λ (r : Register). read k r s) (source_is f source)

  pub mask_bytes : mask_of f k s ≡ predicate_of k f.g s.p
  mask_bytes = ap (λ (r : Register). read k r s) (governing_is f)

  -- what is written
  pub effect_target : (effect_of f k s).target ≡ target_of f
  unfolding effect_of
  effect_target = refl

  pub effect_bytes : (effect_of f k s).bytes ≡ destination_after f k s
  unfolding effect_of
  effect_bytes = refl

  -- the state after it: the destination's bytes are new, all else stays
  pub executed_is : executed f k s ≡ write k (target_of f) (destination_after f k s) s
  executed_is = ap₂ (λ (r : Register) (bytes : List ℕ). write k r bytes s) effect_target effect_bytes

  -- of a word that writes a kind of register: one of that kind's file is written, and the other file stays
  pub executed_of_kind : (kind : Kind) → kind_written (family_of f.row) ≡ kind
      → executed f k s ≡ with_contents kind (with_register k kind f.d (destination_after f k s) (contents kind s)) s
  executed_of_kind kind is = executed_is ∙ ap (λ (r : Register). write k r (destination_after f k s) s) (target_of_kind f kind is)

  pub executed_vectors : kind_written (family_of f.row) ≡ Vector → (executed f k s).z ≡ with_vector k f.d (destination_after f k s) s.z
  executed_vectors is = ap (λ (t : State). t.z) (executed_of_kind Vector is)

  pub executed_predicates : kind_written (family_of f.row) ≡ Vector → (executed f k s).p ≡ s.p
  executed_predicates is = ap (λ (t : State). t.p) (executed_of_kind Vector is)

  -- so such a word's state is known from its vector file
  pub executed_state : kind_written (family_of f.row) ≡ Vector → (z : List ℕ) → z ≡ (executed f k s).z → state z s.p ≡ executed f k s
  executed_state is z e = ap₂ state e (sym (executed_predicates is))

module _ (f : Fields) (k : ℕ) (s : State) (x : Executable f k s) where
  -- there are these registers
  pub target_register : IsRegister (target_of f)
  target_register = rw (target_is f) (by (family_of f.row) x.fields.d)
    where
      by : (family : Family) → f.d < 2 ^ destination_digits family → f.d < register_count (kind_written family)
      by (Low low) h = h
      by (Wide wide) h = h
      by (Made made) h = h

  pub source_below : (source : Source) → source_field f source < vectors
  source_below Operand1 = source_in x.fields
  source_below Operand2 = second_most f k s x
  source_below Old = destination_in x.fields

  pub source_register : (source : Source) → IsRegister (source_of f source)
  source_register source = rw (source_is f source) (source_below source)

  pub governing_register : IsRegister (governing_of f)
  governing_register = rw (governing_is f) (omega (arith, governing_below (family_of f.row) x.fields.g))

  -- an operand is a whole vector
  pub operand_length : (source : Source) → length (operand_of (operands_of f k s) source) ≡ vector_bytes k
  operand_length source = ap length (operand_bytes f k s source) ∙ length_read k (vector (source_field f source)) s x.lent (source_below source)

  -- and so is what is written
  pub effect_sized : length (effect_of f k s).bytes ≡ register_bytes k (target_of f).kind
  effect_sized = rw (effect_bytes f k s, target_is f) (length_destination f k s x)

  -- the files keep their sizes, and the register that is written reads as what was written
  pub executed_sized : Sized k (executed f k s)
  executed_sized = rw (effect_target f k s) (write_sized k (target_of f) s x.lent target_register (effect_of f k s).bytes effect_sized)

  pub executed_reads : read k (target_of f) (executed f k s) ≡ (effect_of f k s).bytes
  executed_reads = rw (effect_target f k s) (read_write k (target_of f) s x.lent target_register (effect_of f k s).bytes effect_sized)
