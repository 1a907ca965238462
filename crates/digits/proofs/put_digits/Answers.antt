-- Each turn writes the last of the digits still to write.
use Rattle.std.proofs.Common.{◌≡◌, ◌∙◌, arith}
use Rattle.digits.specs.Digits.{digits_in}
use Rattle.digits.proofs.Decimals.{digits_length, digits_next}
use Rattle.digits.proofs.put_digits.Goals as goal

pub loop-i-preserved : goal.loop-i-preserved
loop-i-preserved c =
    digits_next c.loop-i.out c.args.at c.args.base c.loop-i.i c.loop-i.rest c.digit.result c.loop-i-test.true c.digit.ensures ∙ c.loop-i.invariant

pub returns : goal.returns
unfolding digits_in
returns c = let none : c.loop-i.i ≡ 0 = omega arith in record { bytes = rw none at c.loop-i.invariant; after = rw digits_length }
