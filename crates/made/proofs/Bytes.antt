-- A byte of a made predicate: where all its lanes are below the count it has the first bit of each, and where fewer are it has the low digits
-- of that. Byte j is the first byte of what is made of the lanes that are left after those of the j bytes before.
-- Assumes nothing.
use Prim.Native.Nat.{ℕ, ◌+◌, ◌-◌, ◌*◌, ◌/◌, ◌%◌, ◌^◌, ◌≤◌, ◌<◌}
use mathlib.Core.Path.{◌≡◌, refl, sym, ◌∙◌, ap, ap₂}
use mathlib.Core.Bool.{Bool, true, false}
use native.Mathlib.Nat.{one-mul, suc-mul, mod-eq_of_lt, zero-add, mul_comm, mul_assoc, add-mul, mul-add-div_right, div-lt_iff_lt-mul, le-div_iff_mul-le}
use native.Mathlib.Omega.{arith}
use lib.Dec.{eqb, ltb}
use lib.Pow.{pow_pos, pow-lt}
use borrow.Author.Tests.{lt-ltb, le-ltb, ltb-true, ltb-false, eq-eqb, ne_eqb, eqb-true, eqb-false}
use Rattle.parts.specs.Part.{both}
use Rattle.machine.specs.Size.{sizes}
use Rattle.machine.proofs.Sizes.{of_four}
use Rattle.lanes.specs.Lane.{width_of}
use Rattle.made.specs.Made.{is_made, made_byte}
use Rattle.made.proofs.Bits.{same_bits, cut_bits}

-- the lanes of a byte fill it
pub lanes_fill : (size : ℕ) → size < sizes → 8 / width_of size * width_of size ≡ 8
lanes_fill = of_four (λ size. 8 / width_of size * width_of size ≡ 8) refl refl refl refl

-- a bit of a lane below the count is made where it is the lane's first
pub made_within : (size count x : ℕ) → x < count * width_of size → is_made size count x ≡ eqb (x / width_of size * width_of size) x
made_within size count x h =
    rw (lt-ltb (x / width_of size) count ((div-lt_iff_lt-mul (pow_pos size)).1 h)) (only (eqb (x / width_of size * width_of size) x))
  where
    only : (t : Bool) → both t true ≡ t
    only true = refl
    only false = refl

-- a bit past the lanes below the count is not
pub made_beyond : (size count x : ℕ) → count * width_of size ≤ x → is_made size count x ≡ false
made_beyond size count x h =
    rw (le-ltb (x / width_of size) count ((le-div_iff_mul-le (pow_pos size)).1 h)) (neither (eqb (x / width_of size * width_of size) x))
  where
    neither : (t : Bool) → both t false ≡ false
    neither true = refl
    neither false = refl

-- below two counts a bit is made by both or by neither
made_alike : (size m n x : ℕ) → x < m * width_of size → x < n * width_of size → is_made size m x ≡ is_made size n x
made_alike size m n x h k = made_within size m x h ∙ sym (made_within size n x k)

-- eight lanes fill a byte at any size
eight_fill : (size x : ℕ) → x < 8 → x < 8 * width_of size
eight_fill size x h = omega (arith, pow_pos size)

-- with a byte's lanes all below the count, it is the byte of every lane
pub byte_whole : (size count : ℕ) → 8 ≤ count * width_of size → made_byte size count 0 ≡ made_byte size 8 0
unfolding made_byte
byte_whole size count h =
    same_bits (is_made size count) (is_made size 8) 0 0 8 (λ i l. rw (zero-add i) (made_alike size count 8 i (omega arith) (eight_fill size i l)))

-- with fewer, it is the low digits of that
pub byte_cut : (size count : ℕ) → count * width_of size ≤ 8 → made_byte size count 0 ≡ made_byte size 8 0 % 2 ^ (count * width_of size)
unfolding made_byte
byte_cut size count h =
    cut_bits (is_made size count) (is_made size 8) 0 8 (count * width_of size) h
    (λ i l. rw (zero-add i) (made_alike size count 8 i l (eight_fill size i (omega arith))))
    (λ i l. rw (zero-add i) (made_beyond size count i l))

-- fewer lanes than a byte has are fewer bits than eight
few : (size count : ℕ) → count < 8 / width_of size → count * width_of size < 8
few size count h = omega (arith, (le-div_iff_mul-le (pow_pos size)).0 h, suc-mul count (width_of size), pow_pos size)

-- the power of two as a shift makes it
power : (n : ℕ) → n < 8 → (1 * 2 ^ n) % 256 ≡ 2 ^ n
power n h = rw (one-mul (2 ^ n)) (mod-eq_of_lt (pow-lt {i = n} {j = 8} h))

-- so those low digits are taken by a shift
pub byte_below : (size count : ℕ) → count < 8 / width_of size
    → made_byte size 8 0 % ((1 * 2 ^ (count * width_of size)) % 256) ≡ made_byte size count 0
byte_below size count h =
    rw (power (count * width_of size) (few size count h)) (sym (byte_cut size count (omega (arith, few size count h))))

-- two sums with the same first summand are equal where the second are, and a sum is below a number where the second summand is below what is left
sums_equal : (a b c : ℕ) → eqb (a + b) (a + c) ≡ eqb b c
sums_equal a b c = go (eqb b c) refl
  where
    go : (t : Bool) → eqb b c ≡ t → eqb (a + b) (a + c) ≡ t
    go true e = eq-eqb (a + b) (a + c) (omega (arith, eqb-true b c e))
    go false e = ne_eqb (a + b) (a + c) (λ same. eqb-false b c e (omega arith))

sum_below : (a b c : ℕ) → ltb (a + b) c ≡ ltb b (c - a)
sum_below a b c = go (ltb b (c - a)) refl
  where
    go : (t : Bool) → ltb b (c - a) ≡ t → ltb (a + b) c ≡ t
    go true e = lt-ltb (a + b) c (omega (arith, ltb-true b (c - a) e))
    go false e = le-ltb (a + b) c (omega (arith, ltb-false b (c - a) e))

-- byte j is the first byte of what is made of the lanes that are left
pub byte_later : (size count j : ℕ) → size < sizes → made_byte size count j ≡ made_byte size (count - j * (8 / width_of size)) 0
unfolding made_byte
byte_later size count j sized =
    same_bits (is_made size count) (is_made size (count - before)) (8 * j) 0 8 (λ i l. rw (zero-add i) (ap₂ both (first i) (below i)))
  where
    w : ℕ
    w = width_of size

    before : ℕ
    before = j * (8 / w)

    start : 8 * j ≡ before * w
    start = mul_comm 8 j ∙ ap (λ (n : ℕ). j * n) (sym (lanes_fill size sized)) ∙ sym (mul_assoc j (8 / w) w)

    lane : (i : ℕ) → (8 * j + i) / w ≡ before + i / w
    lane i = ap (λ (n : ℕ). (n + i) / w) start ∙ mul-add-div_right (pow_pos size) before i

    first : (i : ℕ) → eqb ((8 * j + i) / w * w) (8 * j + i) ≡ eqb (i / w * w) i
    first i =
        ap₂ eqb (ap (λ (n : ℕ). n * w) (lane i) ∙ add-mul before (i / w) w) (ap (λ (n : ℕ). n + i) start)
        ∙ sums_equal (before * w) (i / w * w) i

    below : (i : ℕ) → ltb ((8 * j + i) / w) count ≡ ltb (i / w) (count - before)
    below i = ap (λ (n : ℕ). ltb n count) (lane i) ∙ sum_below before (i / w) count
