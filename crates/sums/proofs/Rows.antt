-- Where a segment's lanes stand in the register, and the low bytes of what a lane adds.
-- Assumes nothing.
use Rattle.std.proofs.Common.{◌≡◌, ℕ, ◌+◌, ◌*◌, ◌%◌, ◌^◌, ◌<◌, ◌≤◌, Bool, true, false, cond, pos, sym, refl, ap, ◌∙◌, mul_assoc, add-mul, arith}
use Rattle.machine.specs.Size.{segment_bytes}
use Rattle.machine.proofs.Places.{place_within}
use Rattle.parts.specs.Number.{bytes_of}
use Rattle.parts.proofs.Numbers.{bytes_modulo}
use Rattle.lanes.specs.Integer.{residue}
use Rattle.lanes.specs.Sum.{counted}
use Rattle.lanes.proofs.Written.{bytes_residue}
use Rattle.sums.specs.Panel.{per_segment, FillsSegment}

-- lane e of a segment lies within it
pub lane_inside : (w e : ℕ) → FillsSegment w → e < per_segment w → e * w + w ≤ segment_bytes
lane_inside w e f h = rw (← f) (place_within e (per_segment w) w h)

-- where lane e of segment s stands
pub lane_place : (w s e : ℕ) → FillsSegment w → (s * per_segment w + e) * w ≡ s * segment_bytes + e * w
lane_place w s e f =
    add-mul (s * per_segment w) e w
    ∙ ap (λ (n : ℕ). n + e * w) (mul_assoc s (per_segment w) w ∙ ap (λ (n : ℕ). s * n) f)

-- the low bytes of what a lane adds are those of its number if it is active, else zeros
pub counted_bytes : (w : ℕ) → w ≤ 8 → (t : Bool) (n : ℕ) → bytes_of w (residue 64 (counted t (pos n))) ≡ bytes_of w (cond t n 0)
counted_bytes w h true n = sym (bytes_residue w h (pos n)) ∙ ap (λ (k : ℕ). bytes_of w (n % 2 ^ k)) (omega arith) ∙ bytes_modulo w 0 n
counted_bytes w h false n = refl
