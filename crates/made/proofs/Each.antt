-- A list made of each number from one on: with one more at its end, and read at a place.
-- Assumes nothing.
use Prim.Native.Nat.{ℕ, zero, suc, ◌+◌, ◌<◌}
use mathlib.Core.Path.{◌≡◌, sym, ◌∙◌, ap}
use mathlib.Core.List.{[], ◌∷◌, ◌++◌}
use native.Mathlib.Nat.{add-zero, add-suc, suc-add, not-suc-le-zero, le_of_suc-le-suc}
use lib.ListN.{get_or}
use Rattle.lanes.specs.Sum.{each}

-- one more at the end
pub each_more : (f : ℕ → ℕ) (e n : ℕ) → each f e (suc n) ≡ each f e n ++ (f (e + n) ∷ [])
each_more f e zero = ap (λ (i : ℕ). f i ∷ []) (sym (add-zero e))
each_more f e (suc n) = ap (◌∷◌ (f e)) (each_more f (suc e) n ∙ ap (λ (i : ℕ). each f (suc e) n ++ (f i ∷ [])) (suc-add e n ∙ sym (add-suc e n)))

-- what stands at a place
pub each_at : (f : ℕ → ℕ) (e n i : ℕ) → i < n → get_or (each f e n) i 0 ≡ f (e + i)
each_at f e zero i h = absurd (not-suc-le-zero h)
each_at f e (suc n) zero h = ap f (sym (add-zero e))
each_at f e (suc n) (suc i) h = each_at f (suc e) n i (le_of_suc-le-suc h) ∙ ap f (suc-add e i ∙ sym (add-suc e i))
