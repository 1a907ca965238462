-- Where a register stands: register r of n, each of b bytes, lies within the file's n·b bytes.
-- Assumes nothing.
use Prim.Native.Nat.{ℕ, ◌+◌, ◌*◌, ◌≤◌, ◌<◌}
use native.Mathlib.Nat.{mul-le-mul_right, suc-mul}

-- register r ends where the file does, at the latest
pub place_within : (r n b : ℕ) → r < n → r * b + b ≤ n * b
place_within r n b h = rw (← suc-mul r b) (mul-le-mul_right b h)
