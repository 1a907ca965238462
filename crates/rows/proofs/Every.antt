-- A test that antt computes at every place below n, and what it says at one place.
-- Assumes nothing.
use mathlib.Core.Path.{◌≡◌}
use mathlib.Core.Bool.{Bool, true}
use Prim.Native.Nat.{ℕ, zero, suc, ◌<◌}
use native.Mathlib.Nat.{eq-or-lt_of_le, le_of_suc-le-suc}
use mathlib.Core.Logic.{⊎_elim}
use native.Mathlib.Omega.{arith}
use Rattle.parts.specs.Part.{both}
use Rattle.parts.proofs.Same.{both_left, both_right}

-- the test holds at each place below n
abbrev pub every : ℕ → (ℕ → Bool) → Bool
every zero f = true
every (suc n) f = both (f n) (every n f)

pub at_each : (n : ℕ) (f : ℕ → Bool) → every n f ≡ true → (i : ℕ) → i < n → f i ≡ true
at_each zero f e i h = absurd (omega arith)
at_each (suc n) f e i h =
    ⊎_elim (λ (p : i ≡ n). rw p (both_left (f n) (every n f) e)) (λ q. at_each n f (both_right (f n) (every n f) e) i q)
    (eq-or-lt_of_le (le_of_suc-le-suc h))
