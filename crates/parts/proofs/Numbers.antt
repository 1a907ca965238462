-- Bytes and the numbers that they make: w bytes make a number below 2^(8w), and a number's first byte is its lowest.
-- Assumes nothing.
use Prim.Native.Nat.{ℕ, zero, suc, ◌+◌, ◌-◌, ◌*◌, ◌/◌, ◌%◌, ◌^◌, ◌≤◌, ◌<◌}
use mathlib.Core.Path.{◌≡◌, refl, sym, ◌∙◌, ap, ap₂}
use mathlib.Core.List.{List, [], ◌∷◌, ◌++◌, append_assoc}
use native.Mathlib.Nat.{pow-suc, pow-le-pow_right, mul-suc, mod-one, mod-add-div', mod-mod_of_dvd, dvd-mul_left, sub-zero, zero-sub, suc-sub-suc}
use native.Mathlib.Numerals.{add-one}
use native.Mathlib.Omega.{arith}
use lib.ListN.{length, get_or, take, drop, set, replicate}
use lib.Pow.{pow-add, field}
use lib.Seq.{drop-cons, get_or-drop, take-suc-set}
use Rattle.parts.specs.Number.{number, bytes_of, bits_of, number_at, AreBytes}

-- 256 to the w has 8w binary digits
pub bytes_pow : (w : ℕ) → 256 ^ w ≡ 2 ^ bits_of w
bytes_pow zero = refl
bytes_pow (suc w) =
    pow-suc 256 w
    ∙ ap (λ (n : ℕ). n * 256) (bytes_pow w)
    ∙ sym (pow-add 2 (8 * w) 8)
    ∙ ap (λ (n : ℕ). 2 ^ n) (omega (arith, mul-suc 8 w))

-- the first w bytes of a list make a number below 2^(8w)
pub number_lt : (w : ℕ) (l : List ℕ) → AreBytes l → number (take w l) < 256 ^ w
number_lt zero l h = omega arith
number_lt (suc w) [] h = omega (arith, pow-le-pow_right {n = 256} (omega arith) {i = 0} {j = suc w} (omega arith))
number_lt (suc w) (b ∷ bs) h = rw (pow-suc 256 w) (omega (arith, h 0, number_lt w bs (λ i. h (suc i))))

-- the bytes from a place on are bytes
pub drop_bytes : (j : ℕ) (l : List ℕ) → AreBytes l → AreBytes (drop j l)
drop_bytes j l h i = rw (get_or-drop j l i 0) (h (j + i))

-- w bytes from a place on make a number below 2^(8w)
pub number_below : (at w : ℕ) (l : List ℕ) → AreBytes l → number_at at w l < 2 ^ bits_of w
number_below at w l h = rw (← bytes_pow w) (number_lt w (drop at l) (drop_bytes at l h))

-- the number of some bytes is the first byte and 256 times the number of the rest
pub number_step : (l : List ℕ) (j m : ℕ) → j < length l → number (take (suc m) (drop j l)) ≡ get_or l j 0 + 256 * number (take m (drop (suc j) l))
number_step l j m h = rw (drop-cons l j 0)

-- fewer than eight bytes from a place on make a number below 2^56
pub part_small : (m j : ℕ) (l : List ℕ) → m < 8 → AreBytes l → number (take m (drop j l)) < 2 ^ 56
part_small m j l h b =
    omega (arith, number_lt m (drop j l) (drop_bytes j l b), pow-le-pow_right {n = 256} (omega arith) {i = m} {j = 7} (omega arith))

-- one byte more, read before the others
pub number_before : (l : List ℕ) (at i w : ℕ) → 0 < i → i ≤ w → at + (i - 1) < length l
    → number (take (w - i) (drop (at + i) l)) * 256 + get_or l (at + (i - 1)) 0 ≡ number (take (w - (i - 1)) (drop (at + (i - 1)) l))
number_before l at i w p h k =
    omega (arith, sym (number_step l (at + (i - 1)) (w - i) k ∙ ap (λ (j : ℕ). get_or l (at + (i - 1)) 0 + 256 * number (take (w - i) (drop j l))) next))
    ∙ ap (λ (m : ℕ). number (take m (drop (at + (i - 1)) l))) more
  where
    next : suc (at + (i - 1)) ≡ at + i
    next = omega arith

    more : suc (w - i) ≡ w - (i - 1)
    more = omega arith

-- one byte more is written: what is written grows by the lowest of the bytes still to write
pub bytes_next : (l : List ℕ) (i w rest : ℕ) → i < w → w ≤ length l
    → take (i + 1) (set l i (rest % 256)) ++ bytes_of (w - (i + 1)) (rest / 256) ≡ take i l ++ bytes_of (w - i) rest
bytes_next l i w rest h k =
    rw (add-one i, take-suc-set l i (rest % 256) inside, more) (append_assoc (take i l) (rest % 256 ∷ []) (bytes_of (w - suc i) (rest / 256)))
  where
    inside : i < length l
    inside = omega arith

    more : w - i ≡ suc (w - suc i)
    more = omega arith

-- w bytes are w bytes
pub length_bytes_lem : (w n : ℕ) → length (bytes_of w n) ≡ w
length_bytes_lem zero n = refl
length_bytes_lem (suc w) n = ap suc (length_bytes_lem w (n / 256))

-- the low w bytes of a number do not see what stands above 2^(8w)
pub bytes_modulo : (w d n : ℕ) → bytes_of w (n % 2 ^ (bits_of w + d)) ≡ bytes_of w n
bytes_modulo zero d n = refl
bytes_modulo (suc w) d n = ap₂ ◌∷◌ low (ap (bytes_of w) high ∙ bytes_modulo w d (n / 256))
  where
    digits : bits_of (suc w) + d ≡ (bits_of w + d) + 8
    digits = omega (arith, mul-suc 8 w)

    low : n % 2 ^ (bits_of (suc w) + d) % 256 ≡ n % 256
    low = rw (digits, pow-add 2 (bits_of w + d) 8) (mod-mod_of_dvd 256 {b = 2 ^ (bits_of w + d) * 256} n (dvd-mul_left 256 (2 ^ (bits_of w + d))))

    high : n % 2 ^ (bits_of (suc w) + d) / 256 ≡ n / 256 % 2 ^ (bits_of w + d)
    high = rw digits (field n (bits_of w + d) 8)

-- the number that a number's low bytes make
pub number_bytes : (w n : ℕ) → number (bytes_of w n) ≡ n % 2 ^ bits_of w
number_bytes zero n = sym (mod-one n)
number_bytes (suc w) n =
    rw (number_bytes w (n / 256), digits, pow-add 2 (bits_of w) 8)
    (sym (omega (arith, mod-add-div' (n % (2 ^ bits_of w * 256)) 256, low, high)))
  where
    digits : bits_of (suc w) ≡ bits_of w + 8
    digits = mul-suc 8 w

    low : n % (2 ^ bits_of w * 256) % 256 ≡ n % 256
    low = mod-mod_of_dvd 256 {b = 2 ^ bits_of w * 256} n (dvd-mul_left 256 (2 ^ bits_of w))

    high : n % (2 ^ bits_of w * 256) / 256 ≡ n / 256 % 2 ^ bits_of w
    high = rw (← pow-add 2 (bits_of w) 8) (field n (bits_of w) 8)

-- a run of one value without its first elements
pub drop_replicate : (m n a : ℕ) → drop m (replicate n a) ≡ replicate (n - m) a
drop_replicate zero n a = ap (λ (k : ℕ). replicate k a) (sym (sub-zero n))
drop_replicate (suc m) zero a = ap (λ (k : ℕ). replicate k a) (sym (zero-sub (suc m)))
drop_replicate (suc m) (suc n) a = drop_replicate m n a ∙ ap (λ (k : ℕ). replicate k a) (sym (suc-sub-suc n m))
