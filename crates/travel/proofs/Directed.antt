-- A step by its direction, and counts: what a step back or forward leaves is what the step in its direction leaves, and a step more raises
-- either count by one at most.
-- Assumes nothing.
use Prim.Native.Nat.{ℕ, zero, suc, ◌+◌, ◌≤◌}
use mathlib.Core.Path.{◌≡◌, refl, sym, ◌∙◌, ap}
use mathlib.Core.List.{List}
use native.Mathlib.Omega.{arith}
use Rattle.journal.specs.Left.{Core, Buffers, Left}
use Rattle.steps.specs.Calls.{stepped, backed, Stepped, Backed}
use Rattle.travel.specs.declared.Travelled.{Travelled}
use Rattle.travel.specs.Travel.{directed, counted_for, trip_of, went_on, onward, Gone}

pub directed_forward : {X : Type 0} (direction : ℕ) (back forward : X) → (direction ≡ 0 → ⊥) → directed direction back forward ≡ forward
directed_forward zero back forward h = absurd (h refl)
directed_forward (suc direction) back forward h = refl

module _ (c : Core) (program : List ℕ) (direction : ℕ) (b : Buffers) (r : ℕ) (after : Buffers) where
  pub gone_back : direction ≡ 0 → Backed c.k b r after → Gone c program direction b r after
  gone_back e h = rw e h.leaves

  pub gone_forward : (direction ≡ 0 → ⊥) → Stepped c program b r after → Gone c program direction b r after
  gone_forward e h = h.leaves ∙ sym (directed_forward direction (backed c.k b) (stepped c program b) e)

-- a step taken and counted is a step more of the trip
pub trip_onward : (c : Core) (program : List ℕ) (direction : ℕ) (b : Buffers) (r : ℕ) (after : Buffers) (made more : Travelled)
    → Gone c program direction b r after
    → more ≡ counted_for direction r made
    → trip_of after more ≡ onward c program direction (trip_of b made)
trip_onward c program direction b r after made more gone count =
    ap (trip_of after) count ∙ ap (λ (l : Left Buffers). went_on direction l (trip_of b made)) gone

pub counted_few : (direction number bound : ℕ) (made : Travelled) → made.forward ≤ bound → made.back ≤ bound
    → ((counted_for direction number made).forward ≤ bound + 1) × ((counted_for direction number made).back ≤ bound + 1)
counted_few zero zero bound made f b = (omega arith, omega arith)
counted_few (suc direction) zero bound made f b = (omega arith, omega arith)
counted_few direction (suc number) bound made f b = (omega arith, omega arith)
