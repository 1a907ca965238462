-- What the calls of a pane answer is what a word leaves: the destination register, the subtotal of all lanes, the panel's column sums.
-- Assumes nothing.
use Prim.Native.Nat.{ℕ, ◌/◌}
use mathlib.Core.Path.{◌≡◌, sym, ◌∙◌, ap}
use mathlib.Core.List.{List}
use native.Mathlib.Nat.{sub-zero}
use native.Mathlib.Omega.{arith}
use Rattle.machine.specs.Size.{vector_bytes, segment_bytes}
use Rattle.machine.specs.Refusal.{DONE, unless_refused}
use Rattle.registers.specs.Register.{padded, vector_of, predicate_of}
use Rattle.registers.specs.State.{State, read}
use Rattle.lanes.specs.Lane.{width_of, lane, from_lanes}
use Rattle.lanes.specs.Integer.{residue}
use Rattle.lanes.specs.Sum.{each, active_element, total}
use Rattle.rows.specs.Table.{form_of, family_of}
use Rattle.words.proofs.Decoding.{governing_below, size_in_lem, source_in}
use Rattle.words.specs.declared.Fields.{Fields}
use Rattle.rows.specs.declared.Family.TheVariants.{Low}
use Rattle.rows.specs.declared.LowFamily.TheVariants.{Reduction, Segment}
use Rattle.sums.specs.Sums.{lane_sum}
use Rattle.sums.specs.Panel.{per_segment, rows_sum, panel_of, no_panel}
use Rattle.totals.specs.Calls.{panel_refused, panel_answer, subtotal_answer}
use Rattle.totals.proofs.Accepted.{panel_done, panel_accepted, whole_segments}
use Rattle.totals.proofs.Answers.{subtotal_of_all}
use Rattle.sums.proofs.Columns.{addqv_is_column_sums}
use Rattle.meaning.specs.Execute.{kind_written, target_of, operands_of, mask_of, destination_after, written_for, executed}
use Rattle.meaning.specs.Terms.{Operand1}
use Rattle.meaning.specs.Needs.{Executable}
use Rattle.meaning.proofs.Effects.{operand_bytes, mask_bytes, effect_bytes, executed_reads}
use Rattle.registers.proofs.Padded.{padded_padded}
use Rattle.meaning.proofs.Sizes.{k_least, vector_destination, low_written_fits}
use Rattle.meaning.proofs.Summed.{reduction_sum}
use Rattle.meaning.proofs.LowWritten.{written_segment}
use Rattle.demands.proofs.Exact.{answer_modulo}

module _ (f : Fields) (k : ℕ) (s : State) (x : Executable f k s) where
  -- the destination register of the state that a word leaves
  pub register_after : read k (target_of f) (executed f k s) ≡ destination_after f k s
  register_after = executed_reads f k s x ∙ effect_bytes f k s

  -- the calls for the word's source, predicate and size are not refused
  done : panel_refused k s.z s.p f.n f.g f.size ≡ DONE
  done = panel_done k s.z s.p f.n f.g f.size x.lent (source_in x.fields) (governing_below (family_of f.row) x.fields.g) (size_in_lem x.fields)

  -- the subtotal of all lanes is what saddv or uaddv leaves at that size and sign
  pub subtotal_is_the_sum : family_of f.row ≡ Low Reduction
      → subtotal_answer k s.z s.p f.n f.g f.size (form_of f.row).parameters.signed 0 (vector_bytes k / width_of f.size)
      ≡ record { number = DONE; value = lane 8 0 (read k (target_of f) (executed f k s)) }
  subtotal_is_the_sum is =
      subtotal_of_all k s.z s.p f.n f.g f.size (form_of f.row).parameters.signed done
      ∙ ap (λ (v : ℕ). record { number = DONE; value = v }) (sum ∙ sym (ap (lane 8 0) register_after ∙ lane_is))
    where
      summed : ℕ
      summed =
          residue 64
          (total (each (active_element (form_of f.row).parameters.signed (width_of f.size) (mask_of f k s) (operands_of f k s).operand1) 0 (vector_bytes k / width_of f.size)))

      sum : lane_sum (form_of f.row).parameters.signed (width_of f.size) 0 (vector_bytes k / width_of f.size) (predicate_of k f.g s.p) (vector_of k f.n s.z)
          ≡ summed
      sum = rw (sub-zero (vector_bytes k / width_of f.size), mask_bytes f k s, operand_bytes f k s Operand1)

      lane_is : lane 8 0 (destination_after f k s) ≡ summed
      lane_is =
          rw is
          ((rw is at (answer_modulo f k s 0)) (omega arith)
          ∙ ap (residue 64) (reduction_sum (operands_of f k s) (form_of f.row).parameters.signed (width_of f.size) (vector_bytes k) (mask_of f k s)))

  -- what addqv leaves is the panel's rows added, and zeros above
  pub addqv_adds_the_panel : family_of f.row ≡ Low Segment
      → read k (target_of f) (executed f k s)
      ≡ padded (vector_bytes k)
      (from_lanes (width_of f.size) 0 (per_segment (width_of f.size)) (rows_sum (width_of f.size) (panel_answer k s.z s.p f.n f.g f.size)))
  addqv_adds_the_panel is =
      register_after
      ∙ vector_destination f k s (ap kind_written is)
      ∙ sym (padded_padded segment_bytes (vector_bytes k) (written_for f k s) (low_written_fits f k s x Segment is) (omega (arith, k_least f k s x)))
      ∙ ap (padded (vector_bytes k))
      (sym (written_segment f k s x is)
      ∙ sym (addqv_is_column_sums w (mask_of f k s) (operands_of f k s).operand1
      (rw (operand_bytes f k s Operand1)
      (whole_segments k s.z s.p f.n f.g f.size (panel_accepted k s.z s.p f.n f.g f.size done))))
      ∙ ap (λ (rows : List (List ℕ)). from_lanes w 0 (per_segment w) (rows_sum w rows)) told)
    where
      w : ℕ
      w = width_of f.size

      told : panel_of w (mask_of f k s) (operands_of f k s).operand1 ≡ panel_answer k s.z s.p f.n f.g f.size
      told =
          rw (mask_bytes f k s, operand_bytes f k s Operand1)
          (sym (ap (λ (n : ℕ). unless_refused n (panel_of w (predicate_of k f.g s.p) (vector_of k f.n s.z)) no_panel) done))
