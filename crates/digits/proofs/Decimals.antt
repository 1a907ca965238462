-- Digits written from the last to the first, and how many a decimal has.
-- Assumes nothing.
use mathlib.Core.Path.{◌≡◌, refl, sym, ◌∙◌, ap}
use mathlib.Core.Bool.{Bool, true, false}
use mathlib.Core.List.{List, [], ◌∷◌, ◌++◌}
use Prim.Native.Nat.{ℕ, zero, suc, ◌+◌, ◌-◌, ◌/◌, ◌%◌, ◌^◌, ◌≤◌, ◌<◌}
use native.Mathlib.Nat.{pow-suc}
use native.Mathlib.Omega.{arith}
use lib.Dec.{ltb}
use lib.ListN.{length, length-append, set}
use lib.Seq.{sets, set_comm}
use borrow.Author.Tests.{ltb-true, ltb-false}
use Rattle.digits.specs.Digits.{digit_of, digits_in, most_digits, width_within, decimal_width, decimal}
use Rattle.digits.proofs.Puts.{put_then, put_one}

-- a number in digits has as many as are asked for
pub digits_length : (base count n : ℕ) → length (digits_in base count n) ≡ count
unfolding digits_in
digits_length base zero n = refl
digits_length base (suc count) n = rw length-append (omega (arith, digits_length base count (n / base)))

-- a byte set past a piece, before or after the piece is written
sets_set : (l : List ℕ) (i j d : ℕ) (p : List ℕ) → i + length p ≤ j → sets (set l j d) i p ≡ set (sets l i p) j d
sets_set l i j d [] h = refl
sets_set l i j d (a ∷ p) h =
    ap (λ (m : List ℕ). sets m (suc i) p) (set_comm l j i d a (λ e. omega arith))
    ∙ sets_set (set l i a) (suc i) j d p (omega arith)

-- the byte past a piece, written before it
byte_past : (l : List ℕ) (at j d : ℕ) (p : List ℕ) → length p ≡ j → sets (set l (at + j) d) at p ≡ sets l at (p ++ d ∷ [])
byte_past l at j d p size =
    sets_set l at (at + j) d p (omega (arith, size))
    ∙ ap (λ (k : ℕ). set (sets l at p) (at + k) d) (sym size)
    ∙ (put_then {l = l} {p = p} (record { bytes = refl; after = refl }) (put_one (sets l at p) (at + length p) d)).bytes

suc_sub_one : (j : ℕ) → suc j - 1 ≡ j
suc_sub_one j = omega arith

-- the last digit still to write is written: what the others then leave is what all of them did
pub digits_next : (l : List ℕ) (at base i rest d : ℕ) → 0 < i → d ≡ digit_of (rest % base)
    → sets (set l (at + (i - 1)) d) at (digits_in base (i - 1) (rest / base)) ≡ sets l at (digits_in base i rest)
unfolding digits_in
digits_next l at base zero rest d h e = absurd (omega arith)
digits_next l at base (suc j) rest d h e =
    rw (suc_sub_one j, ← e) (byte_past l at j d (digits_in base j (rest / base)) (digits_length base j (rest / base)))

-- a number without its last digit has a digit less
pub div_ten_below : (n m : ℕ) → n < 10 ^ suc m → n / 10 < 10 ^ m
div_ten_below n m h = omega (arith, pow-suc 10 m)

-- how many digits a number has, by its tenth: one, or one more than the tenth has
pub data Width (more n : ℕ) : Type 0 where
  one : n < 10 → width_within (suc more) n ≡ 1 → Width more n
  further : 10 ≤ n → width_within (suc more) n ≡ suc (width_within more (n / 10)) → Width more n

pub width : (more n : ℕ) → Width more n
unfolding width_within
width more n = go (ltb n 10) refl
  where
    go : (b : Bool) → ltb n 10 ≡ b → Width more n
    go true e = one (ltb-true n 10 e) (rw e)
    go false e = further (ltb-false n 10 e) (rw e)

-- the digits counted, the last of them the rest's own, and how many further the rest may have
pub record Counted (n rest count : ℕ) : Type 0 where
  pub more : ℕ
  pub room : count + more ≡ most_digits
  pub below : rest < 10 ^ suc more
  pub all : count + width_within (suc more) rest ≡ suc (decimal_width n)

-- before the first further digit
pub counted_first : (n : ℕ) → n < 2 ^ 64 → Counted n n 1
unfolding decimal_width
counted_first n h = record { more = most_digits - 1; room = refl; below = omega arith; all = omega arith }

-- a rest of two digits or more: a digit further is counted
pub counted_next : (n rest count : ℕ) → Counted n rest count → 10 ≤ rest → Counted n (rest / 10) (count + 1)
counted_next n rest count c h = go c.more c.room c.below c.all
  where
    go : (more : ℕ) → count + more ≡ most_digits → rest < 10 ^ suc more → count + width_within (suc more) rest ≡ suc (decimal_width n)
        → Counted n (rest / 10) (count + 1)
    go zero room below all = absurd (omega arith)
    go (suc more) room below all = by (width (suc more) rest)
      where
        by : Width (suc more) rest → Counted n (rest / 10) (count + 1)
        by (one p e) = absurd (omega arith)
        by (further p e) = record { more = more; room = omega arith; below = div_ten_below rest (suc more) below; all = omega arith }

-- a rest of one digit: all are counted
pub counted_last : (n rest count : ℕ) → Counted n rest count → rest < 10 → count ≡ decimal_width n
counted_last n rest count c h = go (width c.more rest)
  where
    go : Width c.more rest → count ≡ decimal_width n
    go (one p e) = omega (arith, c.all)
    go (further p e) = absurd (omega arith)

-- no more digits are counted than asked for
within_most : (most n : ℕ) → width_within most n ≤ most
unfolding width_within
within_most zero n = omega arith
within_most (suc more) n = go (width more n) (within_most more (n / 10))
  where
    go : Width more n → width_within more (n / 10) ≤ more → width_within (suc more) n ≤ suc more
    go (one h e) few = omega arith
    go (further h e) few = omega arith

-- a greater number has no fewer digits
within_grows : (most a b : ℕ) → a ≤ b → width_within most a ≤ width_within most b
unfolding width_within
within_grows zero a b h = omega arith
within_grows (suc more) a b h = go (width more a) (width more b) (within_grows more (a / 10) (b / 10) (omega arith))
  where
    go : Width more a → Width more b → width_within more (a / 10) ≤ width_within more (b / 10) → width_within (suc more) a ≤ width_within (suc more) b
    go (one p e) (one q f) grow = omega arith
    go (one p e) (further q f) grow = omega arith
    go (further p e) (one q f) grow = absurd (omega arith)
    go (further p e) (further q f) grow = omega arith

-- a number below a power of ten has no more digits than that power
within_below : (most m n : ℕ) → n < 10 ^ suc m → width_within most n ≤ suc m
unfolding width_within
within_below zero m n h = omega arith
within_below (suc more) zero n h = go (width more n)
  where
    go : Width more n → width_within (suc more) n ≤ 1
    go (one p e) = omega arith
    go (further p e) = absurd (omega arith)
within_below (suc more) (suc m) n h = go (width more n) (within_below more m (n / 10) (div_ten_below n (suc m) h))
  where
    go : Width more n → width_within more (n / 10) ≤ suc m → width_within (suc more) n ≤ suc (suc m)
    go (one p e) few = omega arith
    go (further p e) few = omega arith

-- as many digits as a number has hold it
within_holds : (most n : ℕ) → n < 10 ^ most → n < 10 ^ width_within most n
unfolding width_within
within_holds zero n h = h
within_holds (suc more) n h = go (width more n) (within_holds more (n / 10) (div_ten_below n more h))
  where
    go : Width more n → n / 10 < 10 ^ width_within more (n / 10) → n < 10 ^ width_within (suc more) n
    go (one p e) held = rw e p
    go (further p e) held = rw e (omega (arith, pow-suc 10 (width_within more (n / 10))))

-- of a number that has two digits or more the first is no zero
within_least : (most w n : ℕ) → width_within most n ≡ suc (suc w) → 10 ^ suc w ≤ n
unfolding width_within
within_least zero w n e = absurd (omega arith)
within_least (suc more) zero n e = go (width more n)
  where
    go : Width more n → 10 ≤ n
    go (one p f) = absurd (omega arith)
    go (further p f) = p
within_least (suc more) (suc w) n e = go (width more n) (λ f. within_least more w (n / 10) f)
  where
    go : Width more n → (width_within more (n / 10) ≡ suc (suc w) → 10 ^ suc w ≤ n / 10) → 10 ^ suc (suc w) ≤ n
    go (one p f) least = absurd (omega arith)
    go (further p f) least = omega (arith, pow-suc 10 (suc w), least (omega arith))

-- how many digits a number of 64 bits has: their bounds, that they hold it, and that the first of several is no zero
pub width_most : (n : ℕ) → decimal_width n ≤ most_digits
unfolding decimal_width
width_most n = within_most most_digits n

pub width_least : (n : ℕ) → 1 ≤ decimal_width n
unfolding decimal_width width_within
width_least n = omega arith

pub width_grows : (a b : ℕ) → a ≤ b → decimal_width a ≤ decimal_width b
unfolding decimal_width
width_grows a b h = within_grows most_digits a b h

pub width_below : (m n : ℕ) → n < 10 ^ suc m → decimal_width n ≤ suc m
unfolding decimal_width
width_below m n h = within_below most_digits m n h

pub decimal_holds : (n : ℕ) → n < 2 ^ 64 → n < 10 ^ decimal_width n
unfolding decimal_width
decimal_holds n h = within_holds most_digits n (omega arith)

pub no_leading_zero : (w n : ℕ) → decimal_width n ≡ suc (suc w) → 10 ^ suc w ≤ n
unfolding decimal_width
no_leading_zero w n e = within_least most_digits w n e

-- a decimal has a digit, and one of a number below 100 two at most
pub decimal_least : (n : ℕ) → 1 ≤ length (decimal n)
decimal_least n = rw digits_length (width_least n)

pub decimal_short : (n : ℕ) → n < 100 → length (decimal n) ≤ 2
decimal_short n h = rw digits_length (width_below 1 n h)

-- a decimal of one digit, and one of two
pub decimal_one : (n : ℕ) → decimal_width n ≡ 1 → decimal n ≡ digit_of (n % 10) ∷ []
unfolding digits_in
decimal_one n e = rw e

pub decimal_two : (n : ℕ) → decimal_width n ≡ 2 → decimal n ≡ digit_of (n / 10 % 10) ∷ digit_of (n % 10) ∷ []
unfolding digits_in
decimal_two n e = rw e
