-- The invariant of `write_turns`: the lanes passed are written and all else is as it was.
use Rattle.std.proofs.Common.{◌≡◌}
use Rattle.registers.specs.State.{state}
use Rattle.widens.proofs.InPlace.{file_after}
use Rattle.widens.proofs.write_turns.Given as goal

abbrev pub invariant-loop-e : goal.invariant-loop-e
invariant-loop-e l = l.z ≡ file_after l.f l.k.units (state l.fn.z l.p) l.e
