-- The integers that digits stand for, at any number D of digits: the low digits of a sum are those of the digits' sum modulo 2^D; digits
-- read at their sign give back every integer that fits; extension to more digits keeps the integer.
-- An integer is its part above zero less its part below; modulo M the part below counts M − 1 times.
-- Assumes nothing.
use Rattle.std.proofs.Common.{◌≡◌, ℕ, zero, suc, ◌+◌, ◌-◌, ◌*◌, ◌/◌, ◌%◌, ◌^◌, ◌<◌, ◌≤◌, Bool, true, false, cond, not, T, ltb, ℤ, pos, negsuc, ◌+ℤ◌, ◌-ℤ◌, neg_ℤ, nat_abs, sym, refl, ap, ◌∙◌, ap₂, mod-lt, mod-eq_of_lt, suc-mul, mul_comm, one-mul, pow-suc, mul-zero, zero-add, zero-mul, mul-suc, mul-add, arith, ltb→lt, nltb→le, pow_pos, pow_mono, ltb-false, ltb-true, lt-ltb, le-leb, leb-false, leb-true}
use native.Mathlib.Nat.{add-mod, add-mul-mod_self_left, mod-add-div'}
use lib.Bits.{bit_xor, xor_comm, xor_shifted, xor_block, xor_zero_r}
use lib.Pow.{pow-lt}
use lib.IntN.{sub_ℕ, -ℤ-+ℤ_cancel}
use borrow.Author.Tests.{lt-leb}
use Rattle.parts.specs.Part.{both}
use Rattle.lanes.specs.Integer.{is_negative, integer, residue, FitsAt}

-- a difference of naturals is a natural or its negative
pub sub_cases : (a b : ℕ) (P : ℤ → Type 0) → (b ≤ a → P (pos (a - b))) → (a < b → P (negsuc (b - suc a))) → P (sub_ℕ a b)
sub_cases a b P f g = go (ltb a b) (λ t. ltb→lt a b t) (λ t. nltb→le a b t)
  where
    go : (t : Bool) → (T t → a < b) → (T (not t) → b ≤ a) → P (cond t (negsuc (b - suc a)) (pos (a - b)))
    go true l r = g (l tt)
    go false l r = f (r tt)

-- an integer's parts above and below zero
abbrev above : ℤ → ℕ
above (pos n) = n
above (negsuc n) = 0

abbrev below : ℤ → ℕ
below (pos n) = 0
below (negsuc n) = suc n

sub_parts : (a b : ℕ) → above (sub_ℕ a b) + b ≡ a + below (sub_ℕ a b)
sub_parts a b = sub_cases a b (λ z. above z + b ≡ a + below z) (λ h. omega arith) (λ h. omega arith)

-- the parts of a sum differ by what the parts of the summands differ by
sum_parts : (x y : ℤ) → above (x +ℤ y) + (below x + below y) ≡ (above x + above y) + below (x +ℤ y)
sum_parts (pos a) (pos b) = omega arith
sum_parts (pos a) (negsuc b) = omega (arith, sub_parts a (suc b))
sum_parts (negsuc a) (pos b) = omega (arith, sub_parts b (suc a))
sum_parts (negsuc a) (negsuc b) = omega arith

-- a sum is no further from zero than its summands together
pub abs_sum : (x y : ℤ) → nat_abs (x +ℤ y) ≤ nat_abs x + nat_abs y
abs_sum (pos a) (pos b) = omega arith
abs_sum (pos a) (negsuc b) = sub_cases a (suc b) (λ z. nat_abs z ≤ a + suc b) (λ h. omega arith) (λ h. omega arith)
abs_sum (negsuc a) (pos b) = sub_cases b (suc a) (λ z. nat_abs z ≤ suc a + b) (λ h. omega arith) (λ h. omega arith)
abs_sum (negsuc a) (negsuc b) = omega arith

pub abs_negative : (z : ℤ) → nat_abs (neg_ℤ z) ≡ nat_abs z
abs_negative (pos zero) = refl
abs_negative (pos (suc n)) = refl
abs_negative (negsuc n) = refl

-- modulo suc m, two pairs of parts with one difference come to the same
same_modulo : (m P Q p q : ℕ) → P + q ≡ p + Q → (P + m * Q) % suc m ≡ (p + m * q) % suc m
same_modulo m P Q p q e =
    sym (add-mul-mod_self_left (P + m * Q) (suc m) q)
    ∙ ap (λ (n : ℕ). n % suc m) even
    ∙ add-mul-mod_self_left (p + m * q) (suc m) Q
  where
    even : P + m * Q + suc m * q ≡ p + m * q + suc m * Q
    even = rw (suc-mul m q, suc-mul m Q) (omega arith)

-- m − (n mod m + 1) is what n + 1 below zero comes to
below_modulo : (m n : ℕ) → m - n % suc m ≡ (0 + m * suc n) % suc m
below_modulo m n =
    sym (mod-eq_of_lt (omega (arith, small)))
    ∙ sym (add-mul-mod_self_left (m - r) (suc m) (r + q * m))
    ∙ ap (λ (k : ℕ). k % suc m) whole
  where
    r : ℕ
    r = n % suc m

    q : ℕ
    q = n / suc m

    small : r < suc m
    small = mod-lt n (omega arith)

    split : m * n ≡ m * r + (m * (q * m) + m * q)
    split = ap (λ (k : ℕ). m * k) (sym (mod-add-div' n (suc m))) ∙ mul-add m r (q * suc m) ∙ ap (λ (k : ℕ). m * r + k) (ap (λ (k : ℕ). m * k) (mul-suc q m) ∙ mul-add m (q * m) q)

    whole : m - r + suc m * (r + q * m) ≡ 0 + m * suc n
    whole = omega (arith, suc-mul m (r + q * m), mul-add m r (q * m), mul-suc m n, split, mul_comm m q, small)

-- the low digits of an integer, by its parts
residue_parts : (D m : ℕ) → 2 ^ D ≡ suc m → (z : ℤ) → residue D z ≡ (above z + m * below z) % suc m
residue_parts D m e (pos n) = rw e (ap (λ (k : ℕ). k % suc m) (omega (arith, mul-zero m)))
residue_parts D m e (negsuc n) = rw e (omega (arith, below_modulo m n))

-- the low digits of a sum are those of the digits' sum: the law behind every wrapping add
pub residue_sum : (D : ℕ) (x y : ℤ) → residue D (x +ℤ y) ≡ (residue D x + residue D y) % 2 ^ D
residue_sum D x y = go (2 ^ D - 1) (omega (arith, pow_pos D))
  where
    go : (m : ℕ) → 2 ^ D ≡ suc m → residue D (x +ℤ y) ≡ (residue D x + residue D y) % 2 ^ D
    go m e =
        residue_parts D m e (x +ℤ y)
        ∙ same_modulo m (above (x +ℤ y)) (below (x +ℤ y)) (above x + above y) (below x + below y) (sum_parts x y)
        ∙ ap (λ (k : ℕ). k % suc m) (omega (arith, mul-add m (below x) (below y)))
        ∙ add-mod (above x + m * below x) (above y + m * below y) (suc m)
        ∙ ap (λ (k : ℕ). (k + (above y + m * below y) % suc m) % suc m) (sym (residue_parts D m e x))
        ∙ ap (λ (k : ℕ). (residue D x + k) % suc m) (sym (residue_parts D m e y))
        ∙ ap (λ (k : ℕ). (residue D x + residue D y) % k) (sym e)

-- the low digits are below 2^D
pub residue_lt : (D : ℕ) (z : ℤ) → residue D z < 2 ^ D
residue_lt D (pos n) = mod-lt n (pow_pos D)
residue_lt D (negsuc n) = omega (arith, pow_pos D)

-- adding c modulo M is taken back by adding what is left of M
taken_back : (M a c : ℕ) → c < M → a < M → ((a + c) % M + (M - c) % M) % M ≡ a
taken_back M a c small below =
    sym (add-mod (a + c) (M - c) M) ∙ ap (λ (n : ℕ). n % M) (omega (arith, mul_comm M 1, one-mul M)) ∙ add-mul-mod_self_left a M 1 ∙ mod-eq_of_lt below

-- the low digits of a difference: the number that the second's digits added to wrap to the first's
pub residue_difference : (D : ℕ) (x y : ℤ) (r : ℕ) → r < 2 ^ D → (r + residue D y) % 2 ^ D ≡ residue D x → r ≡ residue D (x -ℤ y)
residue_difference D x y r below wraps =
    let M = 2 ^ D in
    let c = residue D y in
    let again : (r + c) % M ≡ (residue D (x -ℤ y) + c) % M = wraps ∙ sym (sym (residue_sum D (x -ℤ y) y) ∙ ap (residue D) (-ℤ-+ℤ_cancel x y)) in
    sym (taken_back M r c (residue_lt D y) below)
    ∙ ap (λ (n : ℕ). (n + (M - c) % M) % M) again
    ∙ taken_back M (residue D (x -ℤ y)) c (residue_lt D y) (residue_lt D (x -ℤ y))

-- digits read at their sign give back the integer, where it fits
pub integer_residue : (signed : Bool) (D : ℕ) (z : ℤ) → FitsAt signed D z → integer signed D (residue D z) ≡ z
integer_residue false D (pos n) h = ap pos (mod-eq_of_lt h)
integer_residue false D (negsuc n) h = absurd h
integer_residue true D (pos n) h =
    rw (mod-eq_of_lt {n = n} {m = 2 ^ D} (omega arith), lt-leb (2 ^ D) (2 * n) h)
integer_residue true D (negsuc n) h =
    rw (
      mod-eq_of_lt {n = n} {m = 2 ^ D} (omega arith),
      le-leb (2 ^ D) (2 * (2 ^ D - suc n)) (omega arith),
      lt-ltb (2 ^ D - suc n) (2 ^ D) (omega arith),
    )
    (ap negsuc (omega arith))

-- the digits of what digits stand for are the digits
pub residue_integer : (signed : Bool) (D n : ℕ) → n < 2 ^ D → residue D (integer signed D n) ≡ n
residue_integer false D n h = mod-eq_of_lt h
residue_integer true D n h = go (is_negative D n)
  where
    go : (t : Bool) → residue D (cond t (sub_ℕ n (2 ^ D)) (pos n)) ≡ n
    go true = rw (lt-ltb n (2 ^ D) h, mod-eq_of_lt {n = 2 ^ D - suc n} {m = 2 ^ D} (omega arith)) (omega arith)
    go false = mod-eq_of_lt h

-- at least as many digits stand for what D digits stand for
pub integer_fits : (signed : Bool) (D E n : ℕ) → D ≤ E → n < 2 ^ D → FitsAt signed E (integer signed D n)
integer_fits false D E n m h = omega (arith, pow_mono m)
integer_fits true D E n m h = go (is_negative D n) (leb-true (2 ^ D) (2 * n)) (leb-false (2 ^ D) (2 * n))
  where
    go : (t : Bool) → (t ≡ true → 2 ^ D ≤ 2 * n) → (t ≡ false → 2 * n < 2 ^ D) → FitsAt true E (cond t (sub_ℕ n (2 ^ D)) (pos n))
    go true f g = rw (lt-ltb n (2 ^ D) h) (omega (arith, f refl, pow_mono m))
    go false f g = omega (arith, g refl, pow_mono m)

-- extension by the sign keeps the integer
pub extension : (signed : Bool) (D E n : ℕ) → D ≤ E → n < 2 ^ D → integer signed E (residue E (integer signed D n)) ≡ integer signed D n
extension signed D E n m h = integer_residue signed E (integer signed D n) (integer_fits signed D E n m h)

-- how extension by the sign is computed: ones above the digits of a negative number
pub extended : (signed : Bool) (D E n : ℕ) → D ≤ E → n < 2 ^ D
    → residue E (integer signed D n) ≡ cond (both signed (is_negative D n)) (n + (2 ^ E - 2 ^ D)) n
extended false D E n m h = mod-eq_of_lt (omega (arith, pow_mono m))
extended true D E n m h = go (is_negative D n)
  where
    go : (t : Bool) → residue E (cond t (sub_ℕ n (2 ^ D)) (pos n)) ≡ cond t (n + (2 ^ E - 2 ^ D)) n
    go true =
        rw (lt-ltb n (2 ^ D) h, mod-eq_of_lt {n = 2 ^ D - suc n} {m = 2 ^ E} (omega (arith, pow_mono m)))
        (omega (arith, pow_mono m))
    go false = mod-eq_of_lt (omega (arith, pow_mono m))

-- the highest of D digits, as a shift makes it
pub top_digit : (D : ℕ) → 1 ≤ D → D ≤ 64 → 2 * ((1 * 2 ^ (D - 1)) % 2 ^ 64) ≡ 2 ^ D
top_digit D l m =
    rw (one-mul (2 ^ (D - 1)), mod-eq_of_lt {n = 2 ^ (D - 1)} {m = 2 ^ 64} (pow-lt {i = D - 1} {j = 64} (omega arith)))
    (mul_comm 2 (2 ^ (D - 1)) ∙ sym (pow-suc 2 (D - 1)) ∙ ap (λ (k : ℕ). 2 ^ k) (omega arith))

-- a number of D digits with the highest turned over
flipped : (d n : ℕ) → n < 2 ^ d + 2 ^ d → bit_xor n (2 ^ d) ≡ cond (ltb n (2 ^ d)) (n + 2 ^ d) (n - 2 ^ d)
flipped d n h = go (ltb n (2 ^ d)) refl
  where
    go : (t : Bool) → ltb n (2 ^ d) ≡ t → bit_xor n (2 ^ d) ≡ cond t (n + 2 ^ d) (n - 2 ^ d)
    go true l =
        xor_comm n (2 ^ d)
        ∙ ap (λ (k : ℕ). bit_xor k n) (sym (one-mul (2 ^ d)))
        ∙ xor_shifted 1 d n (ltb-true n (2 ^ d) l)
        ∙ rw (one-mul (2 ^ d)) (omega arith)
    go false l =
        let above : n ≡ 1 * 2 ^ d + (n - 2 ^ d) = omega (arith, one-mul (2 ^ d), ltb-false n (2 ^ d) l) in
        let only : 2 ^ d ≡ 1 * 2 ^ d + 0 = omega (arith, one-mul (2 ^ d)) in
        ap₂ bit_xor above only ∙ xor_block d 1 1 (n - 2 ^ d) 0 (omega arith) (pow_pos d) ∙ rw (xor_zero_r (n - 2 ^ d), zero-mul (2 ^ d)) (zero-add (n - 2 ^ d))

-- extension by the sign as a difference: the highest digit turned over, less what it stands for
pub extended_by_turning : (D n : ℕ) → 1 ≤ D → D ≤ 64 → n < 2 ^ D
    → (bit_xor n ((1 * 2 ^ (D - 1)) % 2 ^ 64) + (2 ^ 64 - (1 * 2 ^ (D - 1)) % 2 ^ 64)) % 2 ^ 64 ≡ residue 64 (integer true D n)
extended_by_turning D n l m small =
    rw (shifted, flipped (D - 1) n (omega (arith, twice))) (go (ltb n half) refl) ∙ sym (extended true D 64 n m small)
  where
    half : ℕ
    half = 2 ^ (D - 1)

    shifted : (1 * 2 ^ (D - 1)) % 2 ^ 64 ≡ 2 ^ (D - 1)
    shifted = rw (one-mul (2 ^ (D - 1))) (mod-eq_of_lt {n = 2 ^ (D - 1)} {m = 2 ^ 64} (pow-lt {i = D - 1} {j = 64} (omega arith)))

    twice : half + half ≡ 2 ^ D
    twice = omega (arith, top_digit D l m, shifted)

    fits : 2 ^ D ≤ 2 ^ 64
    fits = pow_mono {i = D} {j = 64} m

    go : (t : Bool) → ltb n half ≡ t → (cond t (n + half) (n - half) + (2 ^ 64 - half)) % 2 ^ 64 ≡ cond (is_negative D n) (n + (2 ^ 64 - 2 ^ D)) n
    go true b =
        rw (lt-leb (2 ^ D) (2 * n) (omega (arith, twice, ltb-true n half b)))
        (omega (arith, twice, fits, ltb-true n half b))
    go false b =
        rw (le-leb (2 ^ D) (2 * n) (omega (arith, twice, ltb-false n half b)))
        (omega (arith, twice, fits, ltb-false n half b))
