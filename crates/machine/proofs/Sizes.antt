-- The four sizes of elements, one after the other.
-- Assumes nothing.
use Prim.Native.Nat.{ℕ, zero, suc, ◌<◌}
use native.Mathlib.Omega.{arith}
use Rattle.machine.specs.Size.{sizes}

-- what holds of sizes 0, 1, 2 and 3 holds of every size
pub of_four : (P : ℕ → Type 0) → P 0 → P 1 → P 2 → P 3 → (size : ℕ) → size < sizes → P size
of_four P a b c d zero h = a
of_four P a b c d (suc zero) h = b
of_four P a b c d (suc (suc zero)) h = c
of_four P a b c d (suc (suc (suc zero))) h = d
of_four P a b c d (suc (suc (suc (suc n)))) h = absurd (omega arith)
