-- The invariant: no count is above the steps taken, and the steps that are left, taken from here, leave what all of them leave from the start.
-- Assumes nothing.
use Rattle.std.proofs.Common.{◌≡◌, ◌≤◌, drop}
use Rattle.registers.specs.State.{state}
use Rattle.journal.specs.Left.{core_of, buffers_of}
use Rattle.travel.specs.Travel.{trip_of, starting, travelled}
use Rattle.travel.proofs.travel.Given as goal

abbrev pub invariant-loop-direction : goal.invariant-loop-direction
invariant-loop-direction l = record {
  forward : l.made.forward ≤ l.direction-index;
  back : l.made.back ≤ l.direction-index;
  trip : travelled (core_of l.core.k l.core.facts) l.program (drop l.direction-index l.directions) (trip_of (buffers_of (state l.z l.p) l.journal) l.made)
      ≡ travelled (core_of l.core.k l.core.facts) l.program l.directions (starting (buffers_of (state l.fn.z l.fn.p) l.fn.journal));
}
