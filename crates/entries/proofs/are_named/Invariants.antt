-- The entries passed have numbers that entries may have.
use Rattle.std.proofs.Common.{◌≡◌, true}
use Rattle.entries.specs.Layout.{greatest_of, are_named, first_entries}
use Rattle.entries.proofs.are_named.Given as goal

abbrev pub invariant-loop-i : goal.invariant-loop-i
invariant-loop-i l = are_named (greatest_of l.journal) (first_entries l.k.units l.journal l.i) ≡ true
