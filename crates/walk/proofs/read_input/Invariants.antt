-- The invariant: the count is within the input, and so many bytes were read into its front. The measure is the room left.
use Rattle.std.proofs.Common.{◌≤◌, ◌-◌, length, take}
use Rattle.std.specs.Io.KnownBytes.{Consumes}
use Rattle.walk.proofs.read_input.Given as goal

abbrev pub invariant-loop-count : goal.invariant-loop-count
invariant-loop-count g l =
    (l.count ≤ length l.input) × Consumes (g.R.Read.remaining l.initial.reader) (g.R.Read.remaining l.reader) (take l.count l.input)

abbrev pub decreases-loop-count : goal.decreases-loop-count
decreases-loop-count g l = length l.input - l.count
