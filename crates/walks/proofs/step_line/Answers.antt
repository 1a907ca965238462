-- `step_line` meets its contract: the step's answer and buffers, and what is printed of it in the part from the place on.
-- Assumes nothing.
use Rattle.std.proofs.Common.{length, arith}
use native.Mathlib.Nat.{le_refl}
use borrow.Rule.Slice.PartMut.{mid_len}
use Rattle.machine.specs.Refusal.{answered, answer_of}
use Rattle.machine.proofs.Codes.{answer_value}
use Rattle.registers.specs.State.{state}
use Rattle.journal.specs.Left.{core_of}
use Rattle.lines.proofs.Pieces.{put_from}
use Rattle.walks.proofs.Printed.{printed_most, turn_put}
use Rattle.walks.proofs.step_line.Goals as goal

-- what is printed is not longer than the longest line, and is written at the place
pub returns : goal.returns
returns c =
    let a = c.args in
    let out = a.out.now in
    let core = core_of a.core.k a.core.facts in
    let step = c.step-outcome in
    let left = state step.new.z step.new.p in
    let written = c.write_line in
    let put = turn_put core left a.program.now a.position c.answered-number.result _ _ (answer_of written.result)
    (omega (arith, mid_len a.at (length out) out (le_refl _))) written.ensures in
    record {
      stepped = step.ensures;
      shown = put_from a.at out (omega arith) (omega (arith, printed_most core left a.program.now a.position (answered step.result)))
          (rw (c.answered-number.ensures, answer_value written.result, ← c.unwrap_or-length.ensures) at put);
    }
