-- The number of lanes that a pattern names, of as many as a vector has; and what it is to be the largest number of a kind.
use Rattle.std.specs.Prelude.{ℕ, zero, suc, ◌*◌, ◌-◌, ◌%◌, ◌^◌, ◌≤◌, ◌≡◌, cond, eqb, leb}

-- a power of two doubled as long as its double is not above a count, so many times at most
unfoldable pub doubled_within : ℕ → ℕ → ℕ → ℕ
doubled_within zero power count = power
doubled_within (suc more) power count = cond (leb (2 * power) count) (doubled_within more (2 * power) count) power

-- the largest power of two not above a count
unfoldable pub power_within : ℕ → ℕ
power_within count = doubled_within count 1 count

-- the largest multiple of a number not above a count
unfoldable pub multiple_within : ℕ → ℕ → ℕ
multiple_within n count = count - count % n

-- a fixed number of lanes: none where it is above the count
unfoldable pub fixed_within : ℕ → ℕ → ℕ
fixed_within n count = cond (leb n count) n 0

-- the kinds of patterns: the largest power of two, a fixed number of lanes, the largest multiple of a number, all lanes, none
pub data PatternKind : Type 0 where
  power : PatternKind
  fixed : ℕ → PatternKind
  multiple : ℕ → PatternKind
  all : PatternKind
  none : PatternKind

-- how many of so many lanes a kind names
abbrev pub kind_lanes : PatternKind → ℕ → ℕ
kind_lanes power count = power_within count
kind_lanes (fixed n) count = fixed_within n count
kind_lanes (multiple n) count = multiple_within n count
kind_lanes all count = count
kind_lanes none count = 0

-- the numbers that patterns 9 to 13 fix: 16, 32, 64, 128 and 256
abbrev pub doubling : ℕ → ℕ
doubling pattern = 16 * 2 ^ (pattern - 9)

-- the kind of a pattern: 0 the largest power, 1 to 8 that many lanes, 9 to 13 from 16 to 256, 29 and 30 the largest multiples of 4 and of 3,
-- 31 all, every other none
unfoldable pub pattern_kind : ℕ → PatternKind
pattern_kind pattern =
    cond (eqb pattern 0) power
    (cond (leb pattern 8) (fixed pattern)
    (cond (leb pattern 13) (fixed (doubling pattern))
    (cond (eqb pattern 29) (multiple 4)
    (cond (eqb pattern 30) (multiple 3)
    (cond (eqb pattern 31) all none)))))

-- how many lanes a pattern names, by the lane count
unfoldable pub pattern_lanes : ℕ → ℕ → ℕ
pattern_lanes pattern count = kind_lanes (pattern_kind pattern) count

-- a power of two, and a multiple of a number
pub record IsPower (n : ℕ) : Type 0 where
  pub exponent : ℕ
  pub power : n ≡ 2 ^ exponent

pub record IsMultiple (of n : ℕ) : Type 0 where
  pub times : ℕ
  pub product : n ≡ times * of

-- the largest number of a kind that is not above a count: it is of the kind, it is not above, and none that is so is larger
pub record Largest (P : ℕ → Type 0) (count n : ℕ) : Type 0 where
  pub is : P n
  pub within : n ≤ count
  pub none_larger : (m : ℕ) → P m → m ≤ count → m ≤ n
