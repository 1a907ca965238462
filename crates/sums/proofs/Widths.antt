-- The widths of lanes.
-- Assumes nothing.
use Rattle.std.proofs.Common.{ℕ, ◌<◌, ◌≤◌, refl, arith}
use Rattle.machine.specs.Size.{sizes}
use Rattle.machine.proofs.Sizes.{of_four}
use Rattle.lanes.specs.Lane.{width_of}
use Rattle.sums.specs.Panel.{FillsSegment}

-- lanes of each size have 1 to 8 bytes and fill a segment
pub width_legal : (size : ℕ) → size < sizes → (1 ≤ width_of size) × (width_of size ≤ 8) × FillsSegment (width_of size)
width_legal =
    of_four (λ n. (1 ≤ width_of n) × (width_of n ≤ 8) × FillsSegment (width_of n)) (omega arith, omega arith, refl) (omega arith, omega arith, refl)
    (omega arith, omega arith, refl)
    (omega arith, omega arith, refl)
