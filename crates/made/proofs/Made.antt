-- What a made predicate is: its length, that it has bytes, every bit of it, and which lanes it makes active, at its own size and at wider ones.
-- Made of no lane it is all zeros, and zeros make no lane active.
-- Assumes nothing.
use Prim.Native.Nat.{ℕ, zero, suc, ◌+◌, ◌-◌, ◌*◌, ◌/◌, ◌%◌, ◌^◌, ◌≤◌, ◌<◌}
use mathlib.Core.Path.{◌≡◌, refl, sym, ◌∙◌, ap, ap₂}
use mathlib.Core.Bool.{true, false, cond}
use mathlib.Core.List.{◌∷◌}
use native.Mathlib.Nat.{zero-add, zero-div, zero-mul, mul_comm, mul_assoc, mod-lt, div-add-mod, mul-div_cancel, div-lt_iff_lt-mul, mul-le-mul_right, lt_of_mul-lt-mul_right}
use native.Mathlib.Omega.{arith}
use lib.Dec.{eqb, ltb}
use lib.ListN.{length, get_or, replicate}
use lib.Pow.{pow_pos, pow-add}
use borrow.Author.Tests.{lt-ltb, eq-eqb}
use Rattle.parts.specs.Number.{AreBytes}
use Rattle.machine.specs.Size.{sizes}
use Rattle.lanes.specs.Lane.{width_of, bit_at, active}
use Rattle.lanes.specs.Sum.{each}
use Rattle.lanes.proofs.Sums.{length_each}
use Rattle.made.specs.Made.{is_made, bit_of, bits_from, made_byte, made_bytes}
use Rattle.made.proofs.Bits.{bit_set, bits_below, bits_digit, bits_clear}
use Rattle.made.proofs.Bytes.{lanes_fill, made_beyond}
use Rattle.made.proofs.Each.{each_at}

-- it has the bytes that were asked for
pub made_length : (n size count : ℕ) → length (made_bytes n size count) ≡ n
unfolding made_bytes
made_length n size count = length_each (made_byte size count) 0 n

-- a byte of it is one
pub made_byte_lt : (size count j : ℕ) → made_byte size count j < 256
unfolding made_byte
made_byte_lt size count j = bits_below (is_made size count) (8 * j) 8

pub made_are_bytes : (n size count : ℕ) → AreBytes (made_bytes n size count)
unfolding made_bytes
made_are_bytes n size count = go 0 n
  where
    go : (e n : ℕ) → AreBytes (each (made_byte size count) e n)
    go e zero i = omega arith
    go e (suc n) zero = made_byte_lt size count e
    go e (suc n) (suc i) = go (suc e) n i

-- every bit of it is one that is made or is clear
pub made_bit : (n size count x : ℕ) → x < 8 * n → bit_at x (made_bytes n size count) ≡ cond (is_made size count x) 1 0
unfolding made_bytes made_byte
made_bit n size count x h =
    rw (each_at (made_byte size count) 0 n (x / 8) inside, zero-add (x / 8))
    (bits_digit (is_made size count) (8 * (x / 8)) 8 (x % 8) (mod-lt x (omega arith)) ∙ ap (λ (i : ℕ). bit_of (is_made size count i)) (div-add-mod x 8))
  where
    inside : x / 8 < n
    inside = (div-lt_iff_lt-mul {k = 8} (omega arith)).1 (rw (mul_comm n 8) h)

-- at its own size, the lanes below the count are active and no others
pub made_active : (n size count e : ℕ) → e * width_of size < 8 * n → active (width_of size) e (made_bytes n size count) ≡ ltb e count
made_active n size count e h =
    rw (made_bit n size count (e * width_of size) h, mul-div_cancel e {n = width_of size} (pow_pos size), eq-eqb (e * width_of size) (e * width_of size) refl)
    (bit_set (ltb e count))

-- made of every lane of a size, each lane of that size or a wider one is active
pub made_covering : (n size count wider e : ℕ) → size ≤ wider → 8 * n ≤ count * width_of size → e * width_of wider < 8 * n
    → active (width_of wider) e (made_bytes n size count) ≡ true
made_covering n size count wider e h all inside =
    ap (λ (x : ℕ). eqb (bit_at x (made_bytes n size count)) 1) place
    ∙ made_active n size count (e * 2 ^ (wider - size)) (rw (← place) inside)
    ∙ lt-ltb (e * 2 ^ (wider - size)) count (lt_of_mul-lt-mul_right (width_of size) (omega (arith, place)))
  where
    place : e * width_of wider ≡ e * 2 ^ (wider - size) * width_of size
    place = ap (λ (i : ℕ). e * 2 ^ i) (omega arith) ∙ ap (λ (i : ℕ). e * i) (pow-add 2 (wider - size) size) ∙ sym (mul_assoc e (2 ^ (wider - size)) (width_of size))

pub made_wider : (n size count wider e : ℕ) → size < sizes → size ≤ wider → 8 * n / width_of size ≤ count → e * width_of wider < 8 * n
    → active (width_of wider) e (made_bytes n size count) ≡ true
made_wider n size count wider e sized h all inside =
    made_covering n size count wider e h (rw (← whole) (mul-le-mul_right (width_of size) all)) inside
  where
    eight : 8 * n ≡ n * (8 / width_of size) * width_of size
    eight = mul_comm 8 n ∙ ap (λ (i : ℕ). n * i) (sym (lanes_fill size sized)) ∙ sym (mul_assoc n (8 / width_of size) (width_of size))

    whole : 8 * n / width_of size * width_of size ≡ 8 * n
    whole =
        ap (λ (i : ℕ). i / width_of size * width_of size) eight
        ∙ ap (λ (i : ℕ). i * width_of size) (mul-div_cancel (n * (8 / width_of size)) {n = width_of size} (pow_pos size))
        ∙ sym eight

-- made of no lane it is zeros
pub made_none : (n size : ℕ) → made_bytes n size 0 ≡ replicate n 0
unfolding made_bytes made_byte
made_none n size = go 0 n
  where
    clear : (j : ℕ) → bits_from (is_made size 0) (8 * j) 8 ≡ 0
    clear j = bits_clear (is_made size 0) (8 * j) 8 (λ i. made_beyond size 0 (8 * j + i) (omega (arith, zero-mul (width_of size))))

    go : (e n : ℕ) → each (made_byte size 0) e n ≡ replicate n 0
    go e zero = refl
    go e (suc n) = ap₂ ◌∷◌ (clear e) (go (suc e) n)

-- zeros make no lane active, at any size
pub none_active : (n w e : ℕ) → active w e (replicate n 0) ≡ false
none_active n w e = rw (zeros n (e * w / 8), zero-div (2 ^ (e * w % 8)))
  where
    zeros : (n i : ℕ) → get_or {A = ℕ} (replicate n 0) i 0 ≡ 0
    zeros zero i = refl
    zeros (suc n) zero = refl
    zeros (suc n) (suc i) = zeros n i
