-- What the lane of a turn is made of: the registers that the fields name hold it, each family's sum is that of what feeds it, and its place
-- lies within the destination.
-- Assumes nothing.
use Prim.Native.Nat.{ℕ, ◌+◌, ◌*◌, ◌≤◌, ◌<◌}
use mathlib.Core.Path.{◌≡◌, sym, ◌∙◌}
use mathlib.Core.List.{List, []}
use Rattle.machine.specs.Size.{vectors, vector_bytes}
use Rattle.parts.specs.Number.{with_number}
use Rattle.registers.specs.Register.{register_at, vector_of, predicate_of, InFile}
use Rattle.registers.specs.State.{State}
use Rattle.registers.specs.declared.Kind.TheVariants.{Vector}
use Rattle.lanes.specs.Integer.{residue}
use Rattle.words.specs.declared.Fields.{Fields}
use Rattle.words.proofs.Decoding.{destination_in, size_in_lem}
use Rattle.rows.specs.declared.Parameters.{Parameters}
use Rattle.rows.specs.declared.WideFamily.{WideFamily}
use Rattle.rows.specs.declared.WideFamily.TheVariants.{Pairwise, Widening}
use Rattle.sums.specs.Sums.{Governs}
use Rattle.sums.proofs.Widths.{width_legal}
use Rattle.meaning.specs.Terms.{Operand1, Operand2, Old, sum_of, pairwise_terms, widening_terms}
use Rattle.meaning.specs.Execute.{integer_after, lane_written}
use Rattle.meaning.specs.Needs.{Executable}
use Rattle.elements.specs.Needs.{HalfLanes}
use Rattle.widens.specs.Needs.{WideTurn}
use Rattle.meaning.proofs.Effects.{operand_bytes, mask_bytes}
use Rattle.meaning.proofs.Sizes.{vector_in, vector_length, governs, wide_halves}
use Rattle.widens.proofs.InPlace.{lane_ends}

module _ (ps : Parameters) (w e : ℕ) (f : Fields) (k : ℕ) (s : State) where
  module _ (wide : WideFamily) (t : WideTurn wide ps w e f k s) where
    abbrev word : Executable f k s
    word = t.lanes.word.word

    -- a register that is read holds lane e
    pub holds : (i : ℕ) (a : List ℕ) → i < vectors → a ≡ vector_of k i s.z → HalfLanes w e a
    holds i a l is =
        rw (t.lanes.width, is)
        (record {
          some = (width_legal f.size (size_in_lem word.fields)).0;
          most = (width_legal f.size (size_in_lem word.fields)).1;
          halves = wide_halves f k s word wide t.lanes.word.is;
          inside = rw (vector_length f k s word i l) (lane_ends wide f k s t.lanes.word e t.inside);
        })

    -- the predicate governs the destination
    pub governed : (mask old : List ℕ) → mask ≡ predicate_of k f.g s.p → old ≡ vector_of k f.d s.z → Governs w mask old
    governed mask old p q = rw (t.lanes.width, p, q) (governs f k s word f.d (destination_in word.fields))

    -- the lane's place in the destination, and what stands in the file once its number is there
    pub placed : InFile k Vector f.d s.z × (e * w + w ≤ vector_bytes k)
    placed = (vector_in f k s word f.d (destination_in word.fields), rw t.lanes.width (lane_ends wide f k s t.lanes.word e t.inside))

    pub written : (number : ℕ) → number ≡ residue 64 (integer_after f k s e)
        → with_number (register_at k Vector f.d + e * w) w number s.z ≡ lane_written f k e s
    written number is = rw (t.lanes.width, is)

  -- what feeds lane e, by family
  pub pairwise_fed : (mask first old : List ℕ) → WideTurn Pairwise ps w e f k s → mask ≡ predicate_of k f.g s.p → first ≡ vector_of k f.n s.z
      → old ≡ vector_of k f.d s.z
      → sum_of (record { operand1 = first; operand2 = []; old = old }) (pairwise_terms ps.signed w mask e) ≡ integer_after f k s e
  pairwise_fed mask first old t m a b =
      rw (t.lanes.word.is, t.lanes.parameters, t.lanes.width, m ∙ sym (mask_bytes f k s), a ∙ sym (operand_bytes f k s Operand1), b ∙ sym (operand_bytes f k s Old))

  pub widening_fed : (first second : List ℕ) → WideTurn Widening ps w e f k s → first ≡ vector_of k f.n s.z → second ≡ vector_of k f.m s.z
      → sum_of (record { operand1 = first; operand2 = second; old = [] }) (widening_terms ps w e) ≡ integer_after f k s e
  widening_fed first second t a b =
      rw (t.lanes.word.is, t.lanes.parameters, t.lanes.width, a ∙ sym (operand_bytes f k s Operand1), b ∙ sym (operand_bytes f k s Operand2))
