-- A byte's facts and the byte of facts: each is got back from the other, and bits past the fifth do not matter.
-- Assumes nothing.
use Prim.Native.Nat.{ℕ, zero, suc, ◌+◌, ◌*◌, ◌/◌, ◌%◌, ◌<◌}
use mathlib.Core.Path.{◌≡◌, refl}
use native.Mathlib.Omega.{arith}
use lib.Dec.{eqb}
use Rattle.machine.proofs.Tests.{one_result}
use Rattle.facts.specs.declared.Facts.{Facts}
use Rattle.facts.specs.Facts.{facts_of, byte_of, all_facts, no_facts, all_byte, has_bit, weight_of}

-- two results that the contract of a public call allows are the same
pub facts_of_determined : (byte : ℕ) (r s : Facts) → r ≡ facts_of byte → s ≡ facts_of byte → r ≡ s
facts_of_determined byte = one_result (facts_of byte)

pub byte_of_determined : (facts : Facts) (r s : ℕ) → r ≡ byte_of facts → s ≡ byte_of facts → r ≡ s
byte_of_determined facts = one_result (byte_of facts)

-- the byte of all five, and of none
pub all_of_byte : facts_of all_byte ≡ all_facts
unfolding facts_of
all_of_byte = refl

pub none_of_byte : facts_of 0 ≡ no_facts
unfolding facts_of
none_of_byte = refl

-- a bit that is set adds its weight, one that is not adds nothing
digit_weighs : (digit bit : ℕ) → digit < 2 → weight_of (eqb digit 1) bit ≡ digit * bit
digit_weighs zero bit h = omega arith
digit_weighs (suc zero) bit h = omega arith
digit_weighs (suc (suc n)) bit h = absurd (omega arith)

set_weighs : (byte bit : ℕ) → weight_of (has_bit byte bit) bit ≡ byte / bit % 2 * bit
set_weighs byte bit = digit_weighs (byte / bit % 2) bit (omega arith)

-- five digits, each the rest of half what was left, and what is left after them
five_digits : (n a b c d e v w x y z : ℕ) → n ≡ 2 * v + a → v ≡ 2 * w + b → w ≡ 2 * x + c → x ≡ 2 * y + d → y ≡ 2 * z + e
    → n ≡ 32 * z + (a * 1 + b * 2 + c * 4 + d * 8 + e * 16)
five_digits n a b c d e v w x y z p q r s t = omega arith

low_digits : (n r z low : ℕ) → n ≡ 32 * z + low → n ≡ 32 * z + r → low ≡ r
low_digits n r z low p q = omega arith

-- the byte of a byte's facts is the byte without its higher bits
pub byte_of_facts : (byte : ℕ) → byte_of (facts_of byte) ≡ byte % (all_byte + 1)
unfolding facts_of byte_of
byte_of_facts byte =
    rw (set_weighs byte 1, set_weighs byte 2, set_weighs byte 4, set_weighs byte 8, set_weighs byte 16)
    (low_digits byte (byte % 32) (byte / 32) _
    (five_digits byte _ _ _ _ _ (byte / 2) (byte / 4) (byte / 8) (byte / 16) (byte / 32) (omega arith) (omega arith) (omega arith) (omega arith) (omega arith))
    (omega arith))

-- higher bits do not matter
pub higher_ignored : (byte : ℕ) → facts_of (byte % (all_byte + 1)) ≡ facts_of byte
unfolding facts_of
higher_ignored byte = λ t. record {
  sve = eqb (ones t) 1;
  sve2 = eqb (twos t) 1;
  sve2p1 = eqb (fours t) 1;
  sme = eqb (eights t) 1;
  sme2p1 = eqb (sixteens t) 1;
}
  where
    ones : byte % 32 / 1 % 2 ≡ byte / 1 % 2
    ones = omega arith

    twos : byte % 32 / 2 % 2 ≡ byte / 2 % 2
    twos = omega arith

    fours : byte % 32 / 4 % 2 ≡ byte / 4 % 2
    fours = omega arith

    eights : byte % 32 / 8 % 2 ≡ byte / 8 % 2
    eights = omega arith

    sixteens : byte % 32 / 16 % 2 ≡ byte / 16 % 2
    sixteens = omega arith
