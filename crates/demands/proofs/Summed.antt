-- What feeds a lane of a word's destination, added up, is the sum that the manual has for its family, over the word's own registers.
-- Assumes nothing.
use Prim.Native.Nat.{ℕ, ◌+◌, ◌*◌, ◌/◌}
use mathlib.Core.Path.{ap}
use mathlib.Core.Bool.{false, cond}
use mathlib.Core.List.{List}
use lib.IntN.{ℤ, ◌+ℤ◌, +ℤ_idr}
use Rattle.machine.specs.Size.{vector_bytes}
use Rattle.registers.specs.Register.{vector_of, predicate_of}
use Rattle.registers.specs.State.{State}
use Rattle.lanes.specs.Lane.{width_of, active}
use Rattle.lanes.specs.Sum.{element, counted}
use Rattle.rows.specs.Table.{form_of, family_of}
use Rattle.rows.specs.declared.Parameters.{Parameters}
use Rattle.rows.specs.declared.Family.{Family}
use Rattle.words.specs.declared.Fields.{Fields}
use Rattle.meaning.specs.Terms.{Operands, Operand1, Operand2, Old, sum_of, negated_where, selected}
use Rattle.meaning.specs.Meaning.{family_terms}
use Rattle.meaning.specs.Execute.{operands_of, mask_of, integer_after}
use Rattle.meaning.proofs.Effects.{operand_bytes, mask_bytes}
use Rattle.meaning.proofs.Summed.{reduction_sum, segment_sum, long_sum}
use Rattle.demands.specs.Demands.{ByManual}

-- the terms of a family, added up
by_terms : (family : Family) (ps : Parameters) (w q k e : ℕ) (o : Operands) (mask : List ℕ)
    → ByManual family ps w q k e mask o.operand1 o.operand2 o.old (sum_of o (family_terms family ps w q (vector_bytes k) mask e))
by_terms family ps w q k e o mask =
    record {
      reduction = λ is. rw is (reduction_sum o ps.signed w (vector_bytes k) mask);
      segment = λ is. rw is (segment_sum o w (vector_bytes k) mask e);
      long = λ is. rw is (long_sum o ps.signed w q);
      pairwise = λ is.
          let second = counted (active w e mask) (element ps.signed (w / 2) o.operand1 (2 * e + 1)) in
          rw is
          (ap
          (λ (z : ℤ). element false w o.old e +ℤ (counted (active w e mask) (element ps.signed (w / 2) o.operand1 (2 * e + 0)) +ℤ z))
          (+ℤ_idr second));
      widening = λ is.
          let second = negated_where ps.subtract (element ps.signed (w / 2) o.operand2 (selected ps.top e)) in
          rw is
          (ap
          (λ (z : ℤ). element ps.signed (cond ps.wide w (w / 2)) o.operand1 (cond ps.wide e (selected ps.top e)) +ℤ z)
          (+ℤ_idr second));
    }

-- and of a word's own registers
pub by_registers : (f : Fields) (k : ℕ) (s : State) (e : ℕ)
    → ByManual (family_of f.row) (form_of f.row).parameters (width_of f.size) f.q k e (predicate_of k f.g s.p) (vector_of k f.n s.z)
    (vector_of k f.m s.z)
    (vector_of k f.d s.z)
    (integer_after f k s e)
by_registers f k s e =
    rw (← mask_bytes f k s, ← operand_bytes f k s Operand1, ← operand_bytes f k s Operand2, ← operand_bytes f k s Old)
    (by_terms (family_of f.row) (form_of f.row).parameters (width_of f.size) f.q k e (operands_of f k s) (mask_of f k s))
