-- The registers that the fields name are what the family's function asks for, and its sum is what the word writes.
use Rattle.std.proofs.Common.{◌≡◌, ℕ, List, arith, sym, ◌∙◌, ap}
use Rattle.machine.specs.Size.{segment_bytes}
use Rattle.registers.specs.Register.{padded, vector_of, predicate_of}
use Rattle.registers.specs.State.{state}
use Rattle.words.proofs.Decoding.{q_below, size_in_lem, source_in}
use Rattle.words.specs.declared.Fields.{Fields}
use Rattle.rows.specs.Table.{family_of}
use Rattle.rows.specs.declared.Family.TheVariants.{Low}
use Rattle.sums.proofs.Widths.{width_legal}
use Rattle.meaning.specs.Terms.{Operand1}
use Rattle.meaning.specs.Execute.{operands_of, mask_of}
use Rattle.meaning.proofs.Effects.{operand_bytes, mask_bytes}
use Rattle.meaning.proofs.Sizes.{k_least, k_most, vector_length, governs}
use Rattle.meaning.proofs.LowWritten.{written_reduction, written_segment, written_long}
use Rattle.reduces.proofs.low_bytes.Goals as goal

pub reduction_low-requires : goal.reduction_low-requires
reduction_low-requires c =
    let h = c.requires.0.word in
    rw (c.width_of-w.ensures, c.register-mask.ensures, c.register-source.ensures) (governs _ _ _ h _ (source_in h.fields))

pub segment_sums-requires : goal.segment_sums-requires
segment_sums-requires c =
    let h = c.requires.0.word in
    let size = vector_length _ _ _ h _ (source_in h.fields) in
    rw (c.width_of-w.ensures, c.register-mask.ensures, c.register-source.ensures)
    (record {
      governs = governs _ _ _ h _ (source_in h.fields);
      fills = (width_legal _ (size_in_lem h.fields)).2;
      segments = record { whole = omega (arith, size); few = omega (arith, size, k_most _ _ _ h) };
    })

pub long_low-requires : goal.long_low-requires
long_low-requires c =
    let h = c.requires.0.word in
    rw (c.width_of-w.ensures, c.register-source.ensures)
    (record {
      least = (width_legal _ (size_in_lem h.fields)).0;
      most = (width_legal _ (size_in_lem h.fields)).1;
      low = q_below (family_of c.args.f.row) h.fields.q;
      one = omega (arith, vector_length _ _ _ h _ (source_in h.fields), k_least _ _ _ h);
    })

-- what is read is the word's mask and its first operand
mask : (f : Fields) (k : ℕ) (z p m : List ℕ) → m ≡ predicate_of k f.g p → m ≡ mask_of f k (state z p)
mask f k z p m is = is ∙ sym (mask_bytes f k (state z p))

source : (f : Fields) (k : ℕ) (z p r : List ℕ) → r ≡ vector_of k f.n z → r ≡ (operands_of f k (state z p)).operand1
source f k z p r is = is ∙ sym (operand_bytes f k (state z p) Operand1)

pub returns-in-Reduction : goal.returns-in-Reduction
returns-in-Reduction c =
    let a = c.args in
    let masked = mask a.f a.k.units a.z.now a.p.now _ c.register-mask.ensures in
    let read = source a.f a.k.units a.z.now a.p.now _ c.register-source.ensures in
    (rw (c.width_of-w.ensures, masked, read) at c.reduction_low.ensures)
    ∙ ap (padded segment_bytes) (written_reduction _ _ _ c.requires.0.word _ c.requires.1 (c.requires.0.is ∙ ap Low c.in-Reduction.is))

pub returns-in-Segment : goal.returns-in-Segment
returns-in-Segment c =
    let a = c.args in
    let masked = mask a.f a.k.units a.z.now a.p.now _ c.register-mask.ensures in
    let read = source a.f a.k.units a.z.now a.p.now _ c.register-source.ensures in
    (rw (c.width_of-w.ensures, masked, read) at c.segment_sums.ensures)
    ∙ written_segment _ _ _ c.requires.0.word (c.requires.0.is ∙ ap Low c.in-Segment.is)

pub returns-in-Long : goal.returns-in-Long
returns-in-Long c =
    let a = c.args in
    let read = source a.f a.k.units a.z.now a.p.now _ c.register-source.ensures in
    (rw (c.width_of-w.ensures, read) at c.long_low.ensures)
    ∙ ap (padded segment_bytes) (written_long _ _ _ c.requires.0.word _ c.requires.1 (c.requires.0.is ∙ ap Low c.in-Long.is))
