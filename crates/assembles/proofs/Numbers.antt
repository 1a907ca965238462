-- The number of an operand is read back.
-- Assumes nothing.
use mathlib.Core.Path.{◌≡◌, refl, ◌∙◌, ap}
use mathlib.Core.Bool.{Bool, true, false}
use mathlib.Core.List.{List, [], ◌∷◌, ◌++◌, append_assoc}
use Prim.Native.Nat.{ℕ, zero, suc, ◌/◌, ◌%◌, ◌<◌}
use native.Mathlib.Nat.{mod-lt}
use native.Mathlib.Omega.{arith}
use lib.Dec.{eqb}
use lib.ListN.{get_or}
use borrow.Author.Tests.{eqb-true}
use Rattle.parts.specs.Part.{both}
use Rattle.parts.proofs.Same.{both_left, both_right}
use Rattle.rows.proofs.Every.{every, at_each}
use Rattle.digits.specs.Digits.{digit_of, decimal_width, decimal}
use Rattle.digits.proofs.Decimals.{width_least, width_below, decimal_holds, decimal_one, decimal_two}
use Rattle.operands.specs.declared.Suffix.{Suffix}
use Rattle.operands.specs.declared.Suffix.TheVariants.{Plain, Lane, Lanes, Merging}
use Rattle.operands.specs.declared.Operand.{Operand}
use Rattle.operands.specs.Operands.{suffix_text}
use Rattle.names.specs.Text.{following, listed}
use Rattle.scans.specs.Scanned.{worth, is_digit, number_in}

-- a digit is one, and is worth its value
digit_good : ℕ → Bool
digit_good d = both (is_digit (digit_of d)) (eqb (worth (digit_of d)) d)

digits_good : every 10 digit_good ≡ true
unfolding digit_good digit_of
digits_good = refl

digit_is : (n : ℕ) → (is_digit (digit_of (n % 10)) ≡ true) × (worth (digit_of (n % 10)) ≡ n % 10)
unfolding digit_good
digit_is n =
    let e = at_each 10 digit_good digits_good (n % 10) (mod-lt n (omega arith)) in
    (both_left _ _ e, eqb-true _ _ (both_right (is_digit (digit_of (n % 10))) _ e))

-- a number below 100 after a letter, and no digit after it
number_back : (l n : ℕ) (s : List ℕ) → n < 100 → is_digit (get_or s 0 0) ≡ false → number_in (l ∷ decimal n ++ s) ≡ n
unfolding number_in
number_back l n s h e = go (decimal_width n) refl
  where
    go : (w : ℕ) → decimal_width n ≡ w → number_in (l ∷ decimal n ++ s) ≡ n
    go zero w = absurd (omega (arith, width_least n))
    go (suc zero) w = rw (decimal_one n w, e) (omega (arith, (digit_is n).1, rw w at (decimal_holds n (omega arith))))
    go (suc (suc zero)) w = rw (decimal_two n w, (digit_is n).0) (omega (arith, (digit_is n).1, (digit_is (n / 10)).1))
    go (suc (suc (suc more))) w = absurd (omega (arith, width_below 1 n h))

-- what follows a number begins with no digit
suffix_tail : (s : Suffix) (rest : List ℕ) → is_digit (get_or rest 0 0) ≡ false → is_digit (get_or (suffix_text s ++ rest) 0 0) ≡ false
suffix_tail Plain rest e = e
suffix_tail (Lane size) rest e = refl
suffix_tail (Lanes count size) rest e = refl
suffix_tail Merging rest e = refl

following_tail : (os : List Operand) (end : List ℕ) → is_digit (get_or end 0 0) ≡ false → is_digit (get_or (following os end) 0 0) ≡ false
following_tail [] end e = e
following_tail (o ∷ os) end e = refl

-- the number of the first of some operands
pub listed_number : (o : Operand) (os : List Operand) (end : List ℕ) → is_digit (get_or end 0 0) ≡ false → o.number < 100
    → number_in (listed (o ∷ os) end) ≡ o.number
listed_number o os end e h =
    ap (λ (l : List ℕ). number_in (o.letter ∷ l)) (append_assoc (decimal o.number) (suffix_text o.suffix) (following os end))
    ∙ number_back o.letter o.number (suffix_text o.suffix ++ following os end) h
    (suffix_tail o.suffix (following os end) (following_tail os end e))
