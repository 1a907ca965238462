-- The registers that a word names have the sizes that the code asks for, its lanes fill them, and what it writes fits its destination.
-- Assumes nothing.
use Prim.Native.Nat.{ℕ, ◌+◌, ◌*◌, ◌/◌, ◌≤◌, ◌<◌}
use mathlib.Core.Path.{◌≡◌, refl}
use mathlib.Core.Bool.{Bool, true, false, not}
use native.Mathlib.Omega.{arith}
use lib.Dec.{eqb, leb}
use lib.ListN.{length}
use borrow.Author.Tests.{leb-true}
use Rattle.machine.specs.Size.{vectors, vector_bytes, predicate_bytes, segment_bytes, most_length}
use Rattle.machine.proofs.Sizes.{of_four}
use Rattle.machine.proofs.Checks.{legal_least, legal_most}
use Rattle.parts.proofs.Same.{both_left, both_right}
use Rattle.registers.specs.Register.{register_bytes, vector_of, predicate_of, padded, InFile}
use Rattle.registers.specs.State.{State}
use Rattle.registers.specs.declared.Kind.TheVariants.{Vector, Predicate}
use Rattle.registers.proofs.Places.{in_files, length_register}
use Rattle.lanes.specs.Lane.{width_of}
use Rattle.lanes.proofs.Written.{length_lanes}
use Rattle.rows.specs.Table.{form_of, family_of}
use Rattle.words.specs.Sizes.{allows_long, allows_low, allows_family}
use Rattle.words.proofs.Decoding.{governing_below, second_below, size_in_lem}
use Rattle.words.specs.declared.Fields.{Fields}
use Rattle.rows.specs.declared.Family.{Family}
use Rattle.rows.specs.declared.Family.TheVariants.{Low, Wide, Made}
use Rattle.rows.specs.declared.LowFamily.{LowFamily}
use Rattle.rows.specs.declared.LowFamily.TheVariants.{Reduction, Segment, Long}
use Rattle.rows.specs.declared.WideFamily.{WideFamily}
use Rattle.sums.specs.Sums.{Governs}
use Rattle.sums.proofs.Widths.{width_legal}
use Rattle.meaning.specs.Meaning.{low_width, width_after, low_lanes, lanes_after}
use Rattle.meaning.specs.Execute.{kind_written, width_for, lanes_for, written_for, lane_count, lanes_made, destination_for, destination_after}
use Rattle.made.proofs.Made.{made_length}
use Rattle.meaning.specs.Needs.{Executable}
use Rattle.meaning.specs.Theorems.{is_governed}
use Rattle.registers.proofs.Padded.{length_padded}

pub false_not_true : false ≡ true → ⊥
false_not_true e = let z : ◌≡◌ {A = ℕ} 0 1 = cc in omega arith

-- lanes of each size fill a register
pub whole : (k size : ℕ) → size < 4 → vector_bytes k / width_of size * width_of size ≡ vector_bytes k
whole k = of_four (λ s. vector_bytes k / width_of s * width_of s ≡ vector_bytes k) (omega arith) (omega arith) (omega arith) (omega arith)

-- a lane of more than one byte is two half lanes
halves : (size : ℕ) → size < 4 → 1 ≤ size → width_of size / 2 * 2 ≡ width_of size
halves = of_four (λ s. 1 ≤ s → width_of s / 2 * 2 ≡ width_of s) (λ h. absurd (omega arith)) (λ h. refl) (λ h. refl) (λ h. refl)

-- and has two bytes, four or eight
eight : (size : ℕ) → size < 4 → 1 ≤ size → (width_of size ≡ 2 → ⊥) → (width_of size ≡ 4 → ⊥) → width_of size ≡ 8
eight =
    of_four (λ s. 1 ≤ s → (width_of s ≡ 2 → ⊥) → (width_of s ≡ 4 → ⊥) → width_of s ≡ 8) (λ h. absurd (omega arith)) (λ h not2 not4. absurd (not2 refl))
    (λ h not2 not4. absurd (not4 refl))
    (λ h not2 not4. refl)

-- the long families' lanes have at most eight bytes at twice the width
doubles : (q size : ℕ) → size < 4 → allows_long q size ≡ true → 2 * width_of size ≤ 8
doubles q =
    of_four (λ s. allows_long q s ≡ true → 2 * width_of s ≤ 8) (λ a. omega arith) (λ a. omega arith) (λ a. omega arith)
    (λ a. absurd (false_not_true (both_right (not (eqb (3 * 2 + q) 0b100)) false a)))

-- the low families write lanes of at most eight bytes, sixteen bytes in all
pub low_most : (low : LowFamily) (signed : Bool) (q size : ℕ) → size < 4 → allows_low low signed q size ≡ true → low_width low (width_of size) ≤ 8
low_most Reduction signed q size s a = omega arith
low_most Segment signed q size s a = (width_legal size s).1
low_most Long signed q size s a = doubles q size s a

pub low_fits : (low : LowFamily) (signed : Bool) (q size : ℕ) → size < 4 → allows_low low signed q size ≡ true
    → low_lanes low (width_of size) * low_width low (width_of size) ≤ segment_bytes
low_fits Reduction signed q size s a = omega arith
low_fits Segment signed q size s a = omega (arith, (width_legal size s).2)
low_fits Long signed q size s a = omega (arith, doubles q size s a)

-- no family writes more than its destination has
fits : (family : Family) (signed : Bool) (k q size : ℕ) → 1 ≤ k → size < 4 → allows_family family signed q size ≡ true
    → lanes_after family (width_of size) (vector_bytes k) * width_after family (width_of size) ≤ vector_bytes k
fits (Low low) signed k q size l s a = omega (arith, low_fits low signed q size s a)
fits (Wide wide) signed k q size l s a = omega (arith, whole k size s)
fits (Made made) signed k q size l s a = omega arith

-- a word that writes a vector leaves there what it writes and zeros above
pub vector_destination : (f : Fields) (k : ℕ) (s : State) → kind_written (family_of f.row) ≡ Vector
    → destination_after f k s ≡ padded (vector_bytes k) (written_for f k s)
vector_destination f k s = by (family_of f.row)
  where
    by : (family : Family) → kind_written family ≡ Vector → destination_for family f k s ≡ padded (vector_bytes k) (written_for f k s)
    by (Low low) is = refl
    by (Wide wide) is = refl
    by (Made made) is = cc

-- a family that writes lanes, and one that a predicate governs, write vectors
pub lanes_of_vectors : (family : Family) (w bytes e : ℕ) → e < lanes_after family w bytes → kind_written family ≡ Vector
lanes_of_vectors (Low low) w bytes e h = refl
lanes_of_vectors (Wide wide) w bytes e h = refl
lanes_of_vectors (Made made) w bytes e h = absurd (omega arith)

pub governed_vectors : (family : Family) → is_governed family ≡ true → kind_written family ≡ Vector
governed_vectors (Low low) g = refl
governed_vectors (Wide wide) g = refl
governed_vectors (Made made) g = absurd (false_not_true g)

module _ (f : Fields) (k : ℕ) (s : State) (x : Executable f k s) where
  pub k_least : 1 ≤ k
  k_least = legal_least k x.lent.legal

  pub k_most : k ≤ most_length
  k_most = legal_most k x.lent.legal

  pub governing_in : InFile k Predicate f.g s.p
  governing_in = in_files k s.z s.p Predicate f.g x.lent (omega (arith, governing_below (family_of f.row) x.fields.g))

  pub vector_in : (r : ℕ) → r < vectors → InFile k Vector r s.z
  vector_in r h = in_files k s.z s.p Vector r x.lent h

  pub second_most : f.m < vectors
  second_most = second_below (family_of f.row) x.fields.m

  pub vector_length : (r : ℕ) → r < vectors → length (vector_of k r s.z) ≡ vector_bytes k
  vector_length r h = length_register k Vector r s.z (vector_in r h)

  -- the governing predicate has a bit for each byte of a register
  pub governs : (r : ℕ) → r < vectors → Governs (width_of f.size) (predicate_of k f.g s.p) (vector_of k r s.z)
  governs r h =
      let size : length (predicate_of k f.g s.p) ≡ predicate_bytes k = length_register k Predicate f.g s.p governing_in in
      record {
        least = (width_legal f.size (size_in_lem x.fields)).0;
        most = (width_legal f.size (size_in_lem x.fields)).1;
        covers = omega (arith, vector_length r h, size);
        bits = omega (arith, size, k_most);
      }

  -- a word of a wide family has lanes of more than one byte: two halves each, of eight bytes where not of two or four
  module _ (wide : WideFamily) (is : family_of f.row ≡ Wide wide) where
    wider : 1 ≤ f.size
    wider = leb-true 1 f.size (both_left (leb 1 f.size) (leb f.size 3) (rw is at x.fields.allowed))

    pub wide_halves : width_of f.size / 2 * 2 ≡ width_of f.size
    wide_halves = halves f.size (size_in_lem x.fields) wider

    pub wide_eight : (width_of f.size ≡ 2 → ⊥) → (width_of f.size ≡ 4 → ⊥) → width_of f.size ≡ 8
    wide_eight = eight f.size (size_in_lem x.fields) wider

  -- what a word writes fits its destination
  pub written_fits : length (written_for f k s) ≤ vector_bytes k
  written_fits =
      rw (length_lanes (width_for f) 0 (lanes_for f k) _)
      (fits (family_of f.row) (form_of f.row).parameters.signed k f.q f.size k_least (size_in_lem x.fields) x.fields.allowed)

  -- the destination keeps its size
  pub length_destination : length (destination_after f k s) ≡ register_bytes k (kind_written (family_of f.row))
  length_destination = by (family_of f.row)
    where
      by : (family : Family) → length (destination_for family f k s) ≡ register_bytes k (kind_written family)
      by (Low low) = length_padded (vector_bytes k) (written_for f k s) written_fits
      by (Wide wide) = length_padded (vector_bytes k) (written_for f k s) written_fits
      by (Made made) = made_length (predicate_bytes k) f.size (lanes_made made f.pattern (lane_count f k))

  -- and a low family's the low sixteen bytes
  pub low_written_fits : (low : LowFamily) → family_of f.row ≡ Low low → length (written_for f k s) ≤ segment_bytes
  low_written_fits low is =
      rw (length_lanes (width_for f) 0 (lanes_for f k) _, is)
      (low_fits low (form_of f.row).parameters.signed f.q f.size (size_in_lem x.fields) (rw is at x.fields.allowed))
