-- The byte of facts by the request's words: bits 0 to 4 are SVE, SVE2, SVE2p1, SME and SME2p1 in that order. Each byte of one bit is written out
-- beside its facts, and computed both ways; facts are got back from their byte.
-- Assumes nothing.
use Prim.Native.Nat.{ℕ, ◌+◌, ◌*◌, ◌/◌, ◌%◌, ◌<◌}
use mathlib.Core.Path.{◌≡◌, refl, ◌∙◌, ap}
use mathlib.Core.Bool.{Bool, true, false}
use mathlib.Core.List.{List, [], ◌∷◌, map}
use native.Mathlib.Omega.{arith}
use lib.Dec.{eqb}
use Rattle.facts.specs.declared.Facts.{Facts}
use Rattle.facts.specs.Facts.{facts_of, byte_of, weight_of}

-- the bytes of one bit, and the cores of one fact
abbrev pub single_bytes : List ℕ
single_bytes = 1 ∷ 2 ∷ 4 ∷ 8 ∷ 16 ∷ []

abbrev pub single_facts : List Facts
single_facts =
    record { sve = true; sve2 = false; sve2p1 = false; sme = false; sme2p1 = false }
    ∷ record { sve = false; sve2 = true; sve2p1 = false; sme = false; sme2p1 = false }
    ∷ record { sve = false; sve2 = false; sve2p1 = true; sme = false; sme2p1 = false }
    ∷ record { sve = false; sve2 = false; sve2p1 = false; sme = true; sme2p1 = false }
    ∷ record { sve = false; sve2 = false; sve2p1 = false; sme = false; sme2p1 = true }
    ∷ []

-- each is the other's
pub single_facts_lem : map facts_of single_bytes ≡ single_facts
unfolding facts_of
single_facts_lem = refl

pub single_bytes_lem : map byte_of single_facts ≡ single_bytes
unfolding byte_of
single_bytes_lem = refl

-- a fact adds its digit times its bit's weight, and its digit tells whether it holds
digit : Bool → ℕ
digit holds = weight_of holds 1

weighs : (holds : Bool) (bit : ℕ) → weight_of holds bit ≡ digit holds * bit
unfolding digit
weighs true bit = omega arith
weighs false bit = omega arith

below : (holds : Bool) → digit holds < 2
unfolding digit
below true = omega arith
below false = omega arith

told : (holds : Bool) → eqb (digit holds) 1 ≡ holds
unfolding digit
told true = refl
told false = refl

-- the byte of facts as five digits
record Digits (f : Facts) : Type 0 where
  sum : byte_of f ≡ digit f.sve * 1 + digit f.sve2 * 2 + digit f.sve2p1 * 4 + digit f.sme * 8 + digit f.sme2p1 * 16
  sve : digit f.sve < 2
  sve2 : digit f.sve2 < 2
  sve2p1 : digit f.sve2p1 < 2
  sme : digit f.sme < 2
  sme2p1 : digit f.sme2p1 < 2

five : (f : Facts) → Digits f
unfolding byte_of
five f =
    record {
      sum = rw (weighs f.sve 1, weighs f.sve2 2, weighs f.sve2p1 4, weighs f.sme 8, weighs f.sme2p1 16) refl;
      sve = below f.sve;
      sve2 = below f.sve2;
      sve2p1 = below f.sve2p1;
      sme = below f.sme;
      sme2p1 = below f.sme2p1;
    }

is_one : ℕ → Bool
is_one n = eqb n 1

-- so facts are got back from their byte: of five digits each is the number's, halved so often, at its lowest place
pub facts_of_byte : (f : Facts) → facts_of (byte_of f) ≡ f
unfolding facts_of is_one
facts_of_byte f = λ t. record {
  sve = (ap is_one first ∙ told f.sve) t;
  sve2 = (ap is_one second ∙ told f.sve2) t;
  sve2p1 = (ap is_one third ∙ told f.sve2p1) t;
  sme = (ap is_one fourth ∙ told f.sme) t;
  sme2p1 = (ap is_one fifth ∙ told f.sme2p1) t;
}
  where
    first : byte_of f / 1 % 2 ≡ digit f.sve
    first = omega (arith, five f)

    second : byte_of f / 2 % 2 ≡ digit f.sve2
    second = omega (arith, five f)

    third : byte_of f / 4 % 2 ≡ digit f.sve2p1
    third = omega (arith, five f)

    fourth : byte_of f / 8 % 2 ≡ digit f.sme
    fourth = omega (arith, five f)

    fifth : byte_of f / 16 % 2 ≡ digit f.sme2p1
    fifth = omega (arith, five f)
