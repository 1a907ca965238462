-- The digits still to write, laid over what stands, give what all digits laid over the output did.
use Rattle.std.proofs.Common.{◌≡◌}
use Rattle.std.proofs.lemmas.List.Edits.{sets}
use Rattle.digits.specs.Digits.{digits_in}
use Rattle.digits.proofs.put_digits.Given as goal

abbrev pub invariant-loop-i : goal.invariant-loop-i
invariant-loop-i l = sets l.out l.at (digits_in l.base l.i l.rest) ≡ sets l.fn.out l.at (digits_in l.base l.count l.n)
