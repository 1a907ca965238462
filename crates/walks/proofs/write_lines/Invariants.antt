-- The invariant: what is left of the journal has room in the output for its lines, and whatever writes the lines of the rest from here on has then
-- written all.
-- Assumes nothing.
use Rattle.std.proofs.Common.{ℕ, List, ◌+◌, ◌-◌, ◌≤◌, length}
use Rattle.machine.specs.Size.{most_words}
use Rattle.registers.specs.State.{state}
use Rattle.journal.specs.Left.{core_of, buffers_of}
use Rattle.digits.specs.Put.{Put}
use Rattle.walks.specs.Output.{lines_from, lines_most}
use Rattle.walks.proofs.write_lines.Given as goal

abbrev pub invariant-loop-position : goal.invariant-loop-position
invariant-loop-position l = record {
  room : l.at + lines_most l.core.k l.journal ≤ length l.fn.out;
  rest : (m : List ℕ) (r : ℕ)
      → Put l.out l.at (lines_from (most_words - l.position) (core_of l.core.k l.core.facts) l.program l.position (buffers_of (state l.z l.p) l.journal)) m r
      → Put l.fn.out 0 (lines_from most_words (core_of l.core.k l.core.facts) l.program 0 (buffers_of (state l.fn.z l.fn.p) l.fn.journal)) m r;
}
