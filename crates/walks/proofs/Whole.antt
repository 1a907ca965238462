-- An output that has room for the longest: the whole output of the input is written at its front, so that a program with such room is never refused.
-- Assumes nothing.
use mathlib.Core.List.{List}
use Prim.Native.Nat.{ℕ, ◌≤◌}
use native.Mathlib.Omega.{arith}
use lib.ListN.{length}
use borrow.Author.Tests.{le-ltb}
use Rattle.machine.specs.Refusal.{DONE}
use Rattle.machine.specs.Refusal.{Answer}
use Rattle.digits.specs.Put.{Put}
use Rattle.lines.specs.Line.{Written}
use Rattle.lines.proofs.Lines.{written_put}
use Rattle.walks.specs.Output.{output_of, most_output, OutputWritten}
use Rattle.walks.proofs.Outputs.{output_most}

pub output_put : (input old new : List ℕ) (r : Answer) → most_output ≤ length old → OutputWritten input old new r → Put old 0 (output_of input) new r.value
output_put input old new r room w =
    let done : Written DONE (output_of input) old new r = rw (le-ltb _ _ room) at w in
    written_put DONE (output_of input) old new r done (omega (arith, output_most input, room))
