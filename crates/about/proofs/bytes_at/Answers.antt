-- `bytes_at` meets its contract: what its form gives is asked for a lane's width, which is 8 bytes at most.
-- Assumes nothing.
use Rattle.std.proofs.Common.{◌≤◌, ◌<◌, ℕ, arith}
use Rattle.machine.specs.Size.{sizes}
use Rattle.machine.proofs.Sizes.{of_four}
use Rattle.lanes.specs.Lane.{width_of}
use Rattle.about.proofs.bytes_at.Goals as goal

-- a lane has at most eight bytes
width_most : (size : ℕ) → size < sizes → width_of size ≤ 8
width_most = of_four (λ n. width_of n ≤ 8) (omega arith) (omega arith) (omega arith) (omega arith)

pub family_bytes-requires : goal.family_bytes-requires
family_bytes-requires c = rw c.width_of-w.ensures (width_most _ c.requires)
