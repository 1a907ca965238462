-- The widths of lanes that fill a segment, and where the lanes of its halves stand.
-- Assumes nothing.
use Rattle.std.proofs.Common.{◌≡◌, ℕ, zero, suc, ◌+◌, ◌*◌, ◌/◌, ◌%◌, ◌<◌, ◌≤◌, refl, ap, ◌∙◌, mul-le-mul_right, mul_assoc, add-mul, one-mul, arith}
use Rattle.machine.proofs.Places.{place_within}
use Rattle.sums.specs.Panel.{per_segment, FillsSegment}
use Rattle.columns.specs.Added.{half_bytes, per_half}

-- lanes of 1 to 8 bytes that fill a segment have 1, 2, 4 or 8
filling : (P : ℕ → Type 0) → P 1 → P 2 → P 4 → P 8 → (w : ℕ) → 1 ≤ w → w ≤ 8 → FillsSegment w → P w
filling P one two four eight zero l m f = absurd (omega arith)
filling P one two four eight (suc zero) l m f = one
filling P one two four eight (suc (suc zero)) l m f = two
filling P one two four eight (suc (suc (suc zero))) l m f = absurd (omega arith)
filling P one two four eight (suc (suc (suc (suc zero)))) l m f = four
filling P one two four eight (suc (suc (suc (suc (suc zero))))) l m f = absurd (omega arith)
filling P one two four eight (suc (suc (suc (suc (suc (suc zero)))))) l m f = absurd (omega arith)
filling P one two four eight (suc (suc (suc (suc (suc (suc (suc zero))))))) l m f = absurd (omega arith)
filling P one two four eight (suc (suc (suc (suc (suc (suc (suc (suc zero)))))))) l m f = eight
filling P one two four eight (suc (suc (suc (suc (suc (suc (suc (suc (suc w))))))))) l m f = absurd (omega arith)

-- the last width, where the three others are excluded
pub last_width : (w : ℕ) → 1 ≤ w → w ≤ 8 → FillsSegment w → (w ≡ 1 → ⊥) → (w ≡ 2 → ⊥) → (w ≡ 4 → ⊥) → w ≡ 8
last_width = filling (λ (w : ℕ). (w ≡ 1 → ⊥) → (w ≡ 2 → ⊥) → (w ≡ 4 → ⊥) → w ≡ 8)
    (λ a b c. absurd (a refl)) (λ a b c. absurd (b refl)) (λ a b c. absurd (c refl)) (λ a b c. refl)

-- they fill a half too, and a segment has the lanes of two halves
pub fills_half : (w : ℕ) → 1 ≤ w → w ≤ 8 → FillsSegment w → per_half w * w ≡ half_bytes
fills_half = filling (λ (w : ℕ). per_half w * w ≡ half_bytes) refl refl refl refl

pub two_halves : (w : ℕ) → 1 ≤ w → w ≤ 8 → FillsSegment w → per_segment w ≡ per_half w + per_half w
two_halves = filling (λ (w : ℕ). per_segment w ≡ per_half w + per_half w) refl refl refl refl

-- with n lanes in a half, half h is the lower or the upper one of segment h / 2
module _ (w n h e : ℕ) (below : e < n) where
  -- lane e of half h is a lane of that segment, and its place there is one of the segment's
  pub half_lane : per_segment w ≡ n + n → h * n + e ≡ h / 2 * per_segment w + (h % 2 * n + e)
  half_lane whole =
      omega (arith, ap (λ (k : ℕ). k * n) split, add-mul (h / 2 * 2) (h % 2) n, mul_assoc (h / 2) 2 n, ap (λ (k : ℕ). h / 2 * k) twice)
    where
      split : h ≡ h / 2 * 2 + h % 2
      split = omega arith

      twice : 2 * n ≡ per_segment w
      twice = omega (arith, whole)

  pub place_below : per_segment w ≡ n + n → h % 2 * n + e < per_segment w
  place_below whole = omega (arith, whole, mul-le-mul_right {m = h % 2} {n = 1} n (omega arith), one-mul n)

  -- it lies within the half
  pub lane_in_half : n * w ≡ half_bytes → (h * n + e) * w + w ≤ h * half_bytes + half_bytes
  lane_in_half fills = omega (arith, add-mul (h * n) e w, mul_assoc h n w ∙ ap (λ (k : ℕ). h * k) fills, place_within e n w below, fills)
