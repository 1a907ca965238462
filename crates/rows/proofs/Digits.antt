-- Laws of `digits_and`: it is the machine's AND, the order of masks does not matter, and over masks with no digit in common it adds.
-- Assumes nothing.
use mathlib.Core.Path.{◌≡◌, refl, sym, ◌∙◌, ap, ap₂}
use Prim.Native.Nat.{ℕ, zero, suc, ◌+◌, ◌*◌, ◌-◌, ◌/◌, ◌%◌, ◌^◌, min, ◌<◌}
use native.Mathlib.Nat.{one-mul, pow-suc, div-lt_iff_lt-mul, mod-lt, mod-eq_of_lt, min_comm}
use native.Mathlib.Omega.{arith}
use lib.Arith.{lt-one}
use lib.Bits.{bit_and, and_step, and_mask}
use lib.Pow.{pow_pos, pow-lt}
use Rattle.rows.specs.Digits.{digits_and, field}

-- a one that is shifted up stays within the digits of its number
pub one_shifted : (n count : ℕ) → count < n → 1 * 2 ^ count % 2 ^ n ≡ 2 ^ count
one_shifted n count h = ap (λ (x : ℕ). x % 2 ^ n) (one-mul (2 ^ count)) ∙ mod-eq_of_lt (pow-lt {i = count} {j = n} h)

-- half of a number of n + 1 digits has n
half_below : (n a : ℕ) → a < 2 ^ suc n → a / 2 < 2 ^ n
half_below n a h =
    let g : a < 2 ^ n * 2 = rw pow-suc at h in
    (div-lt_iff_lt-mul {k = 2} (omega arith)).1 g

-- the machine's AND of a number of n digits
pub and_digits : (n a b : ℕ) → a < 2 ^ n → bit_and a b ≡ digits_and n a b
unfolding digits_and
and_digits zero a b h = rw (lt-one h)
and_digits (suc n) a b h =
    and_step a b ∙ ap (λ (x : ℕ). x * 2 + min (a % 2) (b % 2)) (and_digits n (a / 2) (b / 2) (half_below n a h))

-- an AND by its upper digits and its lowest
and_next : (n a b : ℕ) → digits_and (suc n) a b ≡ digits_and n (a / 2) (b / 2) * 2 + min (a % 2) (b % 2)
unfolding digits_and
and_next n a b = refl

-- a number under two masks: each digit is the least of three
and_twice : (n w a b : ℕ)
    → digits_and (suc n) (digits_and (suc n) w a) b
    ≡ digits_and n (digits_and n (w / 2) (a / 2)) (b / 2) * 2 + min (min (w % 2) (a % 2)) (b % 2)
and_twice n w a b =
    and_next n (digits_and (suc n) w a) b
    ∙ ap₂ (λ (x y : ℕ). digits_and n x (b / 2) * 2 + min y (b % 2)) (omega (arith, and_next n w a)) (omega (arith, and_next n w a))

-- a number is the same under two masks in either order, and so is the AND of two numbers
pub and_swap : (n w a b : ℕ) → digits_and n (digits_and n w a) b ≡ digits_and n (digits_and n w b) a
unfolding digits_and
and_swap zero w a b = refl
and_swap (suc n) w a b =
    and_twice n w a b
    ∙ ap₂ (λ (x y : ℕ). x * 2 + y) (and_swap n (w / 2) (a / 2) (b / 2)) (omega arith)
    ∙ sym (and_twice n w b a)

pub and_comm : (n a b : ℕ) → digits_and n a b ≡ digits_and n b a
unfolding digits_and
and_comm zero a b = refl
and_comm (suc n) a b = ap₂ (λ (x y : ℕ). x * 2 + y) (and_comm n (a / 2) (b / 2)) (min_comm (a % 2) (b % 2))

-- an AND of n digits has n
pub and_below : (n a b : ℕ) → digits_and n a b < 2 ^ n
unfolding digits_and
and_below zero a b = omega arith
and_below (suc n) a b = rw pow-suc (omega (arith, and_below n (a / 2) (b / 2)))

-- over two masks with no digit in common the AND adds
pub and_add : (n w a b : ℕ) → digits_and n a b ≡ 0 → digits_and n w (a + b) ≡ digits_and n w a + digits_and n w b
unfolding digits_and
and_add zero w a b h = refl
and_add (suc n) w a b h =
    let half : (a + b) / 2 ≡ a / 2 + b / 2 = omega arith in
    let rest = and_add n (w / 2) (a / 2) (b / 2) (omega arith) in
    rw half (omega (arith, rest))

-- under 0 nothing is left of a number, and all of it under as many ones as it has digits
pub and_none : (n a : ℕ) → digits_and n a 0 ≡ 0
and_none n a = and_comm n a 0 ∙ sym (and_digits n 0 a (pow_pos n))

pub and_all : (n a : ℕ) → a < 2 ^ n → digits_and n a (2 ^ n - 1) ≡ a
and_all n a h = sym (and_digits n a (2 ^ n - 1) h) ∙ and_mask a n ∙ mod-eq_of_lt h

-- what lies within a mask has no digit in common with what the mask has none in common with
pub and_apart : (n a b m : ℕ) → digits_and n b m ≡ b → digits_and n a m ≡ 0 → digits_and n a b ≡ 0
and_apart n a b m within apart =
    and_comm n a b
    ∙ ap (λ (x : ℕ). digits_and n x a) (sym within)
    ∙ and_swap n b m a
    ∙ ap (λ (x : ℕ). digits_and n x m) (and_comm n b a)
    ∙ and_swap n a b m
    ∙ ap (λ (x : ℕ). digits_and n x b) apart
    ∙ and_comm n 0 b
    ∙ and_none n b

-- a field of `count` digits is below 2^count
pub field_below : (low count word : ℕ) → field low count word < 2 ^ count
field_below low count word = mod-lt (word / 2 ^ low) (pow_pos count)
