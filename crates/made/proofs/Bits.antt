-- The number of some bits: it has as many digits, and each digit is its bit. Bits that agree make the same number, bits that are all clear
-- make zero, and those that are clear from one on make the low digits.
-- Assumes nothing.
use Prim.Native.Nat.{ℕ, zero, suc, ◌+◌, ◌*◌, ◌/◌, ◌%◌, ◌^◌, ◌≤◌, ◌<◌}
use mathlib.Core.Path.{◌≡◌, refl, sym, ◌∙◌, ap, ap₂}
use mathlib.Core.Bool.{Bool, true, false}
use native.Mathlib.Nat.{pow-suc, mul_comm, div-div-eq-div-mul, add-mul-div_left, add-mul-mod_self_left, div-one, div-eq_of_lt, mod-one, mod-eq_of_lt}
use native.Mathlib.Nat.{add-zero, add-suc, suc-add, not-suc-le-zero, le_of_suc-le-suc}
use native.Mathlib.Omega.{arith}
use lib.Dec.{eqb}
use lib.Pow.{pow_pos}
use lib.Arith.{mod-mul}
use Rattle.made.specs.Made.{bit_of, bits_from}

-- a bit is zero or one, and one exactly where it is set
pub bit_small : (t : Bool) → bit_of t ≤ 1
bit_small true = omega arith
bit_small false = omega arith

pub bit_set : (t : Bool) → eqb (bit_of t) 1 ≡ t
bit_set true = refl
bit_set false = refl

-- n bits make a number of n binary digits
pub bits_below : (is_set : ℕ → Bool) (x n : ℕ) → bits_from is_set x n < 2 ^ n
bits_below is_set x zero = omega arith
bits_below is_set x (suc n) = rw (pow-suc 2 n) (omega (arith, bit_small (is_set x), bits_below is_set (suc x) n))

-- the lowest digit of the number is the first bit, and the others are the rest's
bits_lowest : (is_set : ℕ → Bool) (x n : ℕ) → bits_from is_set x (suc n) % 2 ≡ bit_of (is_set x)
bits_lowest is_set x n = add-mul-mod_self_left (bit_of (is_set x)) 2 (bits_from is_set (suc x) n) ∙ mod-eq_of_lt (omega (arith, bit_small (is_set x)))

bits_rest : (is_set : ℕ → Bool) (x n : ℕ) → bits_from is_set x (suc n) / 2 ≡ bits_from is_set (suc x) n
bits_rest is_set x n =
    add-mul-div_left (bit_of (is_set x)) (bits_from is_set (suc x) n) {y = 2} (omega arith)
    ∙ omega (arith, div-eq_of_lt {n = bit_of (is_set x)} {m = 2} (omega (arith, bit_small (is_set x))))

-- a bit further on, counted from the next
later : (is_set : ℕ → Bool) (x i : ℕ) → is_set (suc x + i) ≡ is_set (x + suc i)
later is_set x i = ap is_set (suc-add x i ∙ sym (add-suc x i))

-- digit i of the number is bit i of them
pub bits_digit : (is_set : ℕ → Bool) (x n i : ℕ) → i < n → bits_from is_set x n / 2 ^ i % 2 ≡ bit_of (is_set (x + i))
bits_digit is_set x zero i h = absurd (not-suc-le-zero h)
bits_digit is_set x (suc n) zero h = rw (div-one, add-zero x) (bits_lowest is_set x n)
bits_digit is_set x (suc n) (suc i) h =
    rw (pow-suc 2 i, mul_comm (2 ^ i) 2, ← div-div-eq-div-mul (bits_from is_set x (suc n)) 2 (2 ^ i), bits_rest is_set x n)
    (bits_digit is_set (suc x) n i (le_of_suc-le-suc h) ∙ ap bit_of (later is_set x i))

-- bits that are all clear make zero
pub bits_clear : (is_set : ℕ → Bool) (x n : ℕ) → ((i : ℕ) → is_set (x + i) ≡ false) → bits_from is_set x n ≡ 0
bits_clear is_set x zero clear = refl
bits_clear is_set x (suc n) clear =
    ap₂ (λ (t : Bool) (rest : ℕ). bit_of t + 2 * rest) (ap is_set (sym (add-zero x)) ∙ clear 0)
    (bits_clear is_set (suc x) n (λ i. later is_set x i ∙ clear (suc i)))

-- bits that agree make the same number
pub same_bits : (f g : ℕ → Bool) (x y n : ℕ) → ((i : ℕ) → i < n → f (x + i) ≡ g (y + i)) → bits_from f x n ≡ bits_from g y n
same_bits f g x y zero h = refl
same_bits f g x y (suc n) h =
    ap₂ (λ (t : Bool) (rest : ℕ). bit_of t + 2 * rest) (ap f (sym (add-zero x)) ∙ h 0 (omega arith) ∙ ap g (add-zero y))
    (same_bits f g (suc x) (suc y) n (λ i l. later f x i ∙ h (suc i) (omega arith) ∙ sym (later g y i)))

-- bits that agree with others below bit m and are clear from there on make the low m digits of the others' number
pub cut_bits : (f g : ℕ → Bool) (x n m : ℕ) → m ≤ n → ((i : ℕ) → i < m → f (x + i) ≡ g (x + i)) → ((i : ℕ) → m ≤ i → f (x + i) ≡ false)
    → bits_from f x n ≡ bits_from g x n % 2 ^ m
cut_bits f g x n zero l same clear = bits_clear f x n (λ i. clear i (omega arith)) ∙ sym (mod-one (bits_from g x n))
cut_bits f g x zero (suc m) l same clear = absurd (not-suc-le-zero l)
cut_bits f g x (suc n) (suc m) l same clear =
    ap₂ (λ (t : Bool) (rest : ℕ). bit_of t + 2 * rest) (ap f (sym (add-zero x)) ∙ same 0 (omega arith) ∙ ap g (add-zero x))
    (cut_bits f g (suc x) n m (le_of_suc-le-suc l) (λ i h. later f x i ∙ same (suc i) (omega arith) ∙ sym (later g x i)) (λ i h. later f x i ∙ clear (suc i) (omega arith)))
    ∙ sym (rw (pow-suc 2 m, mod-mul (bits_from g x (suc n)) {m = 2 ^ m} {c = 2} (pow_pos m) (omega arith), bits_rest g x n, bits_lowest g x n) (omega arith))
