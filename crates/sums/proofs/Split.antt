-- A sum of a range that is split at its middle, each half in the same way down to single lanes, is the sum in lane order: by induction on a
-- bound of the range's lanes, of which each half of two or more has fewer.
-- Assumes nothing.
use Rattle.std.proofs.Common.{◌≡◌, ℕ, zero, suc, ◌+◌, ◌-◌, ◌%◌, ◌^◌, ◌<◌, ◌≤◌, Bool, true, false, cond, eqb, leb, List, ℤ, sym, refl, ap, ◌∙◌, ap₂, arith, eqb-true, leb-false, leb-true}
use borrow.Author.Tests.{eqb-false}
use Rattle.lanes.specs.Integer.{residue}
use Rattle.lanes.specs.Sum.{each, active_element, total}
use Rattle.sums.specs.Sums.{lane_sum}
use Rattle.sums.specs.Split.{middle_of, split_within, split_sum}
use Rattle.sums.proofs.Ranges.{range_sum, sum_one, sum_split}

module _ (adds : ℕ → ℤ) where
  -- the sum in order, and the split one of at most so many lanes
  abbrev sum : ℕ → ℕ → ℕ
  sum = range_sum 64 adds

  abbrev split : ℕ → ℕ → ℕ → ℕ
  split = split_within (λ e. residue 64 (adds e))

  -- no lane adds up to zero
  sum_empty : (a b : ℕ) → b ≤ a → sum a b ≡ 0
  sum_empty a b h = ap (λ (n : ℕ). residue 64 (total (each adds a n))) none
    where
      none : b - a ≡ 0
      none = omega arith

  -- one lane adds up to what it adds
  sum_single : (a b : ℕ) → b - a ≡ 1 → sum a b ≡ residue 64 (adds a)
  sum_single a b h = ap (sum a) one ∙ sum_one 64 adds a
    where
      one : b ≡ a + 1
      one = omega arith

  -- one halving more: where every range of at most `bound` lanes is right, so is one of a lane more
  split_next : (bound : ℕ) → ((a b : ℕ) → b - a ≤ bound → split bound a b ≡ sum a b) → (a b : ℕ) → b - a ≤ suc bound → split (suc bound) a b ≡ sum a b
  unfolding split_within
  split_next bound right a b h = go (leb b a) refl
    where
      halves : ℕ
      halves = (split bound a (middle_of a b) + split bound (middle_of a b) b) % 2 ^ 64

      more : a < b → (t : Bool) → eqb (b - a) 1 ≡ t → cond t (residue 64 (adds a)) halves ≡ sum a b
      more l true e = sym (sum_single a b (eqb-true _ _ e))
      more l false e =
          let several : b - a ≡ 1 → ⊥ = eqb-false _ _ e in
          ap₂ (λ (m n : ℕ). (m + n) % 2 ^ 64) (right a (middle_of a b) (omega arith)) (right (middle_of a b) b (omega arith))
          ∙ sym (sum_split 64 adds a (middle_of a b) b (omega arith) (omega arith))

      go : (t : Bool) → leb b a ≡ t → cond t 0 (cond (eqb (b - a) 1) (residue 64 (adds a)) halves) ≡ sum a b
      go true e = sym (sum_empty a b (leb-true _ _ e))
      go false e = more (leb-false _ _ e) (eqb (b - a) 1) refl

  -- a split sum is the sum in order
  pub split_in_order : (bound a b : ℕ) → b - a ≤ bound → split bound a b ≡ sum a b
  unfolding split_within
  split_in_order zero a b h = sym (sum_empty a b (omega arith))
  split_in_order (suc bound) a b h = split_next bound (split_in_order bound) a b h

-- the sum that is split down to single lanes is the sum in lane order
pub split_is_lane_order : (signed : Bool) (w a b : ℕ) (predicate register : List ℕ)
    → split_sum signed w a b predicate register ≡ lane_sum signed w a b predicate register
split_is_lane_order signed w a b predicate register =
    split_in_order (active_element signed w predicate register) (b - a) a b (omega arith)
