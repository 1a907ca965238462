-- A row to which segments are added lane by lane. The lanes before a place have the sums of one segment more than those from it on; adding what
-- the next lane of the next segment adds moves the place on by one, and past the last place the row has the sums of one segment more.
-- Assumes nothing.
use Rattle.std.proofs.Common.{◌≡◌, ℕ, zero, suc, ◌+◌, ◌-◌, ◌*◌, ◌/◌, ◌%◌, ◌^◌, ◌<◌, ◌≤◌, List, ◌∷◌, ◌++◌, length, replicate, ℤ, sym, refl, ap, ◌∙◌, ap₂, append-nil, add-zero, suc-mul, add-mul, add_comm, one-mul, zero-mul, add-one, arith, length-append, take_at, drop_at}
use native.Mathlib.Nat.{zero-mod, sub-zero, sub_self, mod-add-mod, add-mod-mod}
use lib.ListN.{replicate-append-replicate}
use Rattle.machine.specs.Size.{segment_bytes}
use Rattle.parts.specs.Part.{with_part}
use Rattle.parts.specs.Number.{bytes_of, bits_of}
use Rattle.parts.proofs.Numbers.{length_bytes_lem, number_bytes, bytes_modulo}
use Rattle.lanes.specs.Lane.{lane, with_lane, from_lanes}
use Rattle.lanes.specs.Integer.{residue}
use Rattle.lanes.proofs.Written.{length_lanes, write_next, residue_modulo}
use Rattle.sums.specs.Panel.{per_segment, FillsSegment, column_element}
use Rattle.sums.proofs.Ranges.{sum_suc}
use Rattle.columns.specs.Added.{column_below, added_row}

-- lanes of zeros are zeros
bytes_zero : (w : ℕ) → bytes_of w 0 ≡ replicate w 0
bytes_zero zero = refl
bytes_zero (suc w) = ap (λ (l : List ℕ). 0 ∷ l) (bytes_zero w)

lanes_zero : (w e n : ℕ) (f : ℕ → ℕ) → ((i : ℕ) → f i ≡ 0) → from_lanes w e n f ≡ replicate (n * w) 0
lanes_zero w e zero f none = sym (ap (λ (k : ℕ). replicate k 0) (zero-mul w))
lanes_zero w e (suc n) f none =
    ap₂ ◌++◌ (ap (bytes_of w) (none e) ∙ bytes_zero w) (lanes_zero w (suc e) n f none)
    ∙ replicate-append-replicate w (n * w) 0
    ∙ ap (λ (k : ℕ). replicate k 0) (add_comm w (n * w) ∙ sym (suc-mul n w))

-- lanes of two kinds side by side: the first of the second kind is read, and written over
module _ (w e n : ℕ) (f g : ℕ → ℕ) where
  read_between : lane w e (from_lanes w 0 e f ++ from_lanes w e (suc n) g) ≡ g e % 2 ^ bits_of w
  read_between =
      rw (
        drop_at (from_lanes w 0 e f) (from_lanes w e (suc n) g) (e * w) (length_lanes w 0 e f),
        take_at (bytes_of w (g e)) (from_lanes w (suc e) n g) w (length_bytes_lem w (g e)),
      )
      (number_bytes w (g e))

  write_between : (v : ℕ) → bytes_of w v ≡ bytes_of w (f e)
      → with_lane w e v (from_lanes w 0 e f ++ from_lanes w e (suc n) g) ≡ from_lanes w 0 (suc e) f ++ from_lanes w (suc e) n g
  write_between v same =
      write_next w e v f (from_lanes w e (suc n) g) same
      ∙ ap (λ (l : List ℕ). from_lanes w 0 (suc e) f ++ l) (drop_at (bytes_of w (g e)) (from_lanes w (suc e) n g) w (length_bytes_lem w (g e)))

-- what is added at 64 digits is added at the lane's own
bytes_sum : (w s : ℕ) (z : ℤ) → w ≤ 8 → bytes_of w (s % 2 ^ bits_of w + residue 64 z) ≡ bytes_of w ((s + residue (bits_of w) z) % 2 ^ bits_of w)
bytes_sum w s z h =
    sym (bytes_modulo w 0 (s % M + residue 64 z))
    ∙ ap (λ (k : ℕ). bytes_of w ((s % M + residue 64 z) % 2 ^ k)) (add-zero (bits_of w))
    ∙ ap (bytes_of w) (mod-add-mod s M (residue 64 z) ∙ sym (add-mod-mod s (residue 64 z) M) ∙ ap (λ (k : ℕ). (s + k) % M) (sym low))
  where
    M : ℕ
    M = 2 ^ bits_of w

    low : residue (bits_of w) z ≡ residue 64 z % 2 ^ bits_of w
    low =
        let whole : bits_of w + (64 - bits_of w) ≡ 64 = omega arith in
        residue_modulo (bits_of w) (64 - bits_of w) z
        ∙ ap (λ (k : ℕ). k % 2 ^ bits_of w) (ap (λ (k : ℕ). residue k z) whole)

-- and so is a sum that comes round past the top of 64 digits
pub wrapped_lane : (w e n : ℕ) (row : List ℕ) → w ≤ 8 → with_lane w e (n % 2 ^ 64) row ≡ with_lane w e n row
wrapped_lane w e n row h =
    ap (λ (bytes : List ℕ). with_part (e * w) w bytes row) (ap (λ (k : ℕ). bytes_of w (n % 2 ^ k)) digits ∙ bytes_modulo w (64 - bits_of w) n)
  where
    digits : 64 ≡ bits_of w + (64 - bits_of w)
    digits = omega arith

module _ (w : ℕ) (predicate register : List ℕ) where
  -- the sums of n segments, and a row
  abbrev sums : ℕ → ℕ → ℕ
  sums = column_below w predicate register

  abbrev row : ℕ → ℕ → List ℕ
  row = added_row w predicate register

  -- one lane more
  pub added_next : (n place m : ℕ) → w ≤ 8 → place < per_segment w → m ≡ residue 64 (column_element w predicate register place n)
      → with_lane w place (lane w place (row n place) + m) (row n place) ≡ row n (place + 1)
  unfolding added_row
  added_next n place m narrow inside is =
      rw (rest, add-one place)
      (write_between w place (per_segment w - suc place) (sums (suc n)) (sums n) _
      (ap₂ (λ (a b : ℕ). bytes_of w (a + b)) (read_between w place (per_segment w - suc place) (sums (suc n)) (sums n)) is
      ∙ bytes_sum w (sums n place) (column_element w predicate register place n) narrow
      ∙ ap (bytes_of w) (sym (sum_suc (bits_of w) (column_element w predicate register place) n))))
    where
      rest : per_segment w - place ≡ suc (per_segment w - suc place)
      rest = omega arith

  -- a row has its sixteen bytes
  pub added_length : (n place : ℕ) → FillsSegment w → place ≤ per_segment w → length (row n place) ≡ segment_bytes
  unfolding added_row
  added_length n place fills h =
      length-append (from_lanes w 0 place (sums (suc n))) (from_lanes w place (per_segment w - place) (sums n))
      ∙ ap₂ ◌+◌ (length_lanes w 0 place (sums (suc n))) (length_lanes w place (per_segment w - place) (sums n))
      ∙ sym (add-mul place (per_segment w - place) w)
      ∙ ap (λ (k : ℕ). k * w) all
      ∙ fills
    where
      all : place + (per_segment w - place) ≡ per_segment w
      all = omega arith

  -- before the first segment, and after the last lane of one
  pub added_none : FillsSegment w → replicate segment_bytes 0 ≡ row 0 0
  unfolding added_row
  added_none fills =
      sym (ap (λ (k : ℕ). from_lanes w 0 k (sums 0)) (sub-zero (per_segment w))
      ∙ lanes_zero w 0 (per_segment w) (sums 0) (λ i. zero-mod (2 ^ bits_of w))
      ∙ ap (λ (k : ℕ). replicate k 0) fills)

  pub added_all : (n : ℕ) → row n 0 ≡ from_lanes w 0 (per_segment w) (sums n)
  unfolding added_row
  added_all n = ap (λ (k : ℕ). from_lanes w 0 k (sums n)) (sub-zero (per_segment w))

  added_whole : (n : ℕ) → row n (per_segment w) ≡ row (suc n) 0
  unfolding added_row
  added_whole n =
      ap (λ (k : ℕ). from_lanes w 0 (per_segment w) (sums (suc n)) ++ from_lanes w (per_segment w) k (sums n)) (sub_self (per_segment w))
      ∙ append-nil (from_lanes w 0 (per_segment w) (sums (suc n)))
      ∙ sym (added_all (suc n))

  -- after half h comes the next
  pub half_added : (k h : ℕ) → per_segment w ≡ k + k → row (h / 2) (h % 2 * k + k) ≡ row ((h + 1) / 2) ((h + 1) % 2 * k)
  half_added k h whole = go (h % 2) refl
    where
      go : (r : ℕ) → h % 2 ≡ r → row (h / 2) (r * k + k) ≡ row ((h + 1) / 2) ((h + 1) % 2 * k)
      go zero lower =
          let next : (h + 1) % 2 ≡ 1 = omega arith in
          ap₂ row (omega arith) (omega (arith, zero-mul k, one-mul k, ap (λ (i : ℕ). i * k) next))
      go (suc zero) upper =
          let next : (h + 1) % 2 ≡ 0 = omega arith in
          ap (row (h / 2)) (omega (arith, one-mul k))
          ∙ added_whole (h / 2)
          ∙ ap₂ row (omega arith) (sym (ap (λ (i : ℕ). i * k) next ∙ zero-mul k))
      go (suc (suc r)) none = absurd (omega arith)
