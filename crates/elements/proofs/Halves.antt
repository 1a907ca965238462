-- Half lanes: half lanes 2e and 2e+1 lie within lane e of the full width. So registers that have the same bytes in lane e
-- have the same element e and the same half elements.
-- Assumes nothing.
use Rattle.std.proofs.Common.{◌≡◌, ℕ, ◌+◌, ◌*◌, ◌/◌, ◌≤◌, Bool, true, false, cond, List, length, sym, ap, ◌∙◌, mul-le-mul_right, mul_assoc, mul_comm, add-mul, one-mul, arith}
use Rattle.parts.specs.Part.{part}
use Rattle.parts.specs.Number.{number, bits_of}
use Rattle.parts.proofs.Parts.{part_part}
use Rattle.lanes.specs.Integer.{integer}
use Rattle.lanes.specs.Sum.{element}

-- half lane 2e + i starts i half lanes after lane e
pub half_starts : (w e i : ℕ) → w / 2 * 2 ≡ w → (2 * e + i) * (w / 2) ≡ e * w + i * (w / 2)
half_starts w e i h = omega (arith, add-mul (2 * e) i (w / 2), twice)
  where
    twice : 2 * e * (w / 2) ≡ e * w
    twice = ap (λ (k : ℕ). k * (w / 2)) (mul_comm 2 e) ∙ mul_assoc e 2 (w / 2) ∙ ap (λ (k : ℕ). e * k) (mul_comm 2 (w / 2) ∙ h)

-- half lane 2e + i, with i at most 1, ends within lane e
pub half_inside : (w e i : ℕ) → w / 2 * 2 ≡ w → i ≤ 1 → (2 * e + i) * (w / 2) + w / 2 ≤ e * w + w
half_inside w e i h l = omega (arith, half_starts w e i h, mul-le-mul_right (w / 2) l, one-mul (w / 2))

-- the half element that a form takes is one of the two
pub half_taken : (top : Bool) → cond top 1 0 ≤ 1
half_taken true = omega arith
half_taken false = omega arith

-- a half element lies in its lane
half_part : (w e i : ℕ) (r : List ℕ) → w / 2 * 2 ≡ w → i ≤ 1 → e * w + w ≤ length r
    → part ((2 * e + i) * (w / 2)) (w / 2) r ≡ part (i * (w / 2)) (w / 2) (part (e * w) w r)
half_part w e i r h l inside =
    ap (λ (at : ℕ). part at (w / 2) r) (half_starts w e i h)
    ∙ sym (part_part (e * w) w (i * (w / 2)) (w / 2) r inside (omega (arith, h, mul-le-mul_right (w / 2) l, one-mul (w / 2))))

-- registers with the same bytes in lane e have the same element there
pub element_same : (signed : Bool) (w e : ℕ) (r t : List ℕ) → part (e * w) w r ≡ part (e * w) w t → element signed w r e ≡ element signed w t e
element_same signed w e r t same = ap (λ (p : List ℕ). integer signed (bits_of w) (number p)) same

-- and the same half elements
pub half_same : (signed : Bool) (w e i : ℕ) (r t : List ℕ) → w / 2 * 2 ≡ w → i ≤ 1 → e * w + w ≤ length r → e * w + w ≤ length t
    → part (e * w) w r ≡ part (e * w) w t → element signed (w / 2) r (2 * e + i) ≡ element signed (w / 2) t (2 * e + i)
half_same signed w e i r t halves l inside inside' same =
    element_same signed (w / 2) (2 * e + i) r t
    (half_part w e i r halves l inside ∙ ap (part (i * (w / 2)) (w / 2)) same ∙ sym (half_part w e i t halves l inside'))
