-- Doubling a power of two within a count: where it stops and where it goes on, and that it stops at the last power within.
-- Assumes nothing.
use Prim.Native.Nat.{ℕ, zero, suc, ◌+◌, ◌*◌, ◌≤◌, ◌<◌}
use mathlib.Core.Path.{◌≡◌, refl, sym, ◌∙◌, ap}
use mathlib.Core.Bool.{Bool, true, false}
use native.Mathlib.Nat.{pow-succ'}
use native.Mathlib.Omega.{arith}
use lib.Dec.{leb}
use borrow.Author.Tests.{leb-true, leb-false, le-leb, lt-leb}
use Rattle.patterns.specs.Lanes.{doubled_within, power_within, IsPower}

-- a power whose double is above the count stays, and one whose double is not is doubled
pub doubled_stops : (more power count : ℕ) → count < 2 * power → doubled_within more power count ≡ power
unfolding doubled_within
doubled_stops zero power count h = refl
doubled_stops (suc more) power count h = rw (lt-leb (2 * power) count h)

pub doubled_further : (more power count : ℕ) → 2 * power ≤ count → doubled_within (suc more) power count ≡ doubled_within more (2 * power) count
unfolding doubled_within
doubled_further more power count h = rw (le-leb (2 * power) count h)

-- the double of a power of two is one
twice : {n : ℕ} → IsPower n → IsPower (2 * n)
twice p = record { exponent = suc p.exponent; power = ap (λ (x : ℕ). 2 * x) p.power ∙ sym (pow-succ' 2 p.exponent) }

-- the last power of two within a count: its double is above
pub record Last (count n : ℕ) : Type 0 where
  pub is : IsPower n
  pub within : n ≤ count
  pub above : count < 2 * n

doubled_last : (more power count : ℕ) → IsPower power → 1 ≤ power → power ≤ count → count < power + more → Last count (doubled_within more power count)
doubled_last zero power count p least within enough = absurd (omega arith)
doubled_last (suc more) power count p least within enough =
    go (leb (2 * power) count) refl (λ further. doubled_last more (2 * power) count (twice p) (omega arith) further (omega arith))
  where
    go : (t : Bool) → leb (2 * power) count ≡ t → (2 * power ≤ count → Last count (doubled_within more (2 * power) count))
        → Last count (doubled_within (suc more) power count)
    go true e rest = let further = leb-true (2 * power) count e in rw (doubled_further more power count further) (rest further)
    go false e rest =
        let above = leb-false (2 * power) count e in
        rw (doubled_stops (suc more) power count above) (record { is = p; within = within; above = above })

pub power_last : (count : ℕ) → 1 ≤ count → Last count (power_within count)
unfolding power_within
power_last count h = doubled_last count 1 count (record { exponent = 0; power = refl }) (omega arith) h (omega arith)

-- a power from which doubling leads to the largest, in as many steps as are left
pub record Leads (count power : ℕ) : Type 0 where
  pub more : ℕ
  pub least : 1 ≤ power
  pub enough : count < power + more
  pub same : doubled_within more power count ≡ power_within count

pub leads_first : (count : ℕ) → Leads count 1
unfolding power_within
leads_first count = record { more = count; least = omega arith; enough = omega arith; same = refl }

pub leads_next : (count power : ℕ) → Leads count power → 2 * power ≤ count → Leads count (2 * power)
leads_next count power l h = go l.more l.enough l.same
  where
    go : (more : ℕ) → count < power + more → doubled_within more power count ≡ power_within count → Leads count (2 * power)
    go zero enough same = absurd (omega arith)
    go (suc more) enough same =
        record { more = more; least = omega (arith, l.least); enough = omega (arith, l.least); same = sym (doubled_further more power count h) ∙ same }

pub leads_last : (count power : ℕ) → Leads count power → count < 2 * power → power ≡ power_within count
leads_last count power l h = sym (doubled_stops l.more power count h) ∙ l.same
