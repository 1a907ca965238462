-- The paper's sentence on patterns, against the definition: the largest power of two and the largest multiples of 4 and of 3 that are not above
-- the lane count, fixed numbers, none where one is above, and all; and that there is one largest, and no pattern names more lanes than there are.
-- Assumes nothing.
use Prim.Native.Nat.{ℕ, suc, ◌/◌, ◌≤◌, ◌<◌}
use mathlib.Core.Path.{◌≡◌, refl, sym}
use mathlib.Core.Bool.{Bool, true, false, cond}
use native.Mathlib.Nat.{pow-succ', div-add-mod', le-div_iff_mul-le, mul-le-mul_right}
use native.Mathlib.Omega.{arith}
use lib.Dec.{leb}
use lib.Pow.{pow_mono}
use borrow.Author.Tests.{leb-true, leb-false, le-leb, lt-leb}
use Rattle.patterns.specs.Lanes.{power_within, multiple_within, fixed_within, doubling, pattern_lanes, IsPower, IsMultiple, Largest}
use Rattle.patterns.specs.Lanes.{PatternKind, power, fixed, multiple, all, none, kind_lanes, pattern_kind}
use Rattle.patterns.proofs.Powers.{Last, power_last}
use Rattle.patterns.proofs.Patterns.{small_kind, large_kind, zero_kind, four_kind, three_kind, all_kind, other_kind, lanes_of_kind}

-- there is one largest of a kind
pub largest_one : {P : ℕ → Type 0} (count m n : ℕ) → Largest P count m → Largest P count n → m ≡ n
largest_one count m n a b = omega (arith, b.none_larger m a.is a.within, a.none_larger n b.is b.within)

-- a power of two whose double is above the count is no smaller than any within
power_most : (count n m : ℕ) → Last count n → IsPower m → m ≤ count → m ≤ n
power_most count n m last p within = go (leb p.exponent last.is.exponent) refl
  where
    go : (t : Bool) → leb p.exponent last.is.exponent ≡ t → m ≤ n
    go true e =
        let smaller : p.exponent ≤ last.is.exponent = leb-true _ _ e in
        omega (arith, last.is.power, p.power, pow_mono smaller)
    go false e =
        let larger : suc last.is.exponent ≤ p.exponent = leb-false _ _ e in
        absurd (omega (arith, last.above, last.is.power, p.power, pow-succ' 2 last.is.exponent, pow_mono larger))

-- pattern 0 names the largest power of two
pub power_largest : (count : ℕ) → 1 ≤ count → Largest IsPower count (pattern_lanes 0 count)
power_largest count h =
    let last = power_last count h in
    rw (← lanes_of_kind 0 count zero_kind)
    (record { is = last.is; within = last.within; none_larger = λ m p w. power_most count (power_within count) m last p w })

-- the largest multiple of any number
pub multiple_largest : (n count : ℕ) → 0 < n → Largest (IsMultiple n) count (multiple_within n count)
unfolding multiple_within
multiple_largest n count h =
    let whole = div-add-mod' count n in
    record {
      is = record { times = count / n; product = omega (arith, whole) };
      within = omega arith;
      none_larger =
          λ m p w. omega (arith, whole, p.product, mul-le-mul_right n ((le-div_iff_mul-le {k = n} {x = p.times} {y = count} h).1 (omega (arith, p.product))));
    }

-- patterns 29 and 30 name the largest multiples of 4 and of 3
pub four_largest : (count : ℕ) → Largest (IsMultiple 4) count (pattern_lanes 29 count)
four_largest count = rw (← lanes_of_kind 29 count four_kind) (multiple_largest 4 count (omega arith))

pub three_largest : (count : ℕ) → Largest (IsMultiple 3) count (pattern_lanes 30 count)
three_largest count = rw (← lanes_of_kind 30 count three_kind) (multiple_largest 3 count (omega arith))

-- a fixed number names so many lanes where there are as many, and none where there are fewer
pub fixed_exact : (n count : ℕ) → ((n ≤ count) → fixed_within n count ≡ n) × ((count < n) → fixed_within n count ≡ 0)
unfolding fixed_within
fixed_exact n count = (λ h. rw (le-leb n count h), λ h. rw (lt-leb n count h))

-- patterns 1 to 8 fix their own number, and 9 to 13 the five from 16 to 256
pub small_fixed : (pattern count : ℕ) → 1 ≤ pattern → pattern ≤ 8 → pattern_lanes pattern count ≡ fixed_within pattern count
small_fixed pattern count low high = sym (lanes_of_kind pattern count (small_kind pattern low high))

pub large_fixed : (pattern count : ℕ) → 9 ≤ pattern → pattern ≤ 13 → pattern_lanes pattern count ≡ fixed_within (doubling pattern) count
large_fixed pattern count low high = sym (lanes_of_kind pattern count (large_kind pattern low high))

-- pattern 31 names all lanes
pub all_lanes : (count : ℕ) → pattern_lanes 31 count ≡ count
all_lanes count = sym (lanes_of_kind 31 count all_kind)

-- every other pattern names none
pub other_none : (pattern count : ℕ) → 13 < pattern → (pattern ≡ 29 → ⊥) → (pattern ≡ 30 → ⊥) → (pattern ≡ 31 → ⊥) → pattern_lanes pattern count ≡ 0
other_none pattern count low four three every = sym (lanes_of_kind pattern count (other_kind pattern low four three every))

-- no pattern names more lanes than there are
fixed_bounded : (n count : ℕ) → fixed_within n count ≤ count
unfolding fixed_within
fixed_bounded n count = go (leb n count) refl
  where
    go : (t : Bool) → leb n count ≡ t → cond t n 0 ≤ count
    go true e = leb-true n count e
    go false e = omega arith

multiple_bounded : (n count : ℕ) → multiple_within n count ≤ count
unfolding multiple_within
multiple_bounded n count = omega arith

kind_bounded : (kind : PatternKind) (count : ℕ) → 1 ≤ count → kind_lanes kind count ≤ count
kind_bounded power count h = (power_last count h).within
kind_bounded (fixed n) count h = fixed_bounded n count
kind_bounded (multiple n) count h = multiple_bounded n count
kind_bounded all count h = omega arith
kind_bounded none count h = omega arith

pub lanes_bounded : (pattern count : ℕ) → 1 ≤ count → pattern_lanes pattern count ≤ count
unfolding pattern_lanes
lanes_bounded pattern count h = kind_bounded (pattern_kind pattern) count h
