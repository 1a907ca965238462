-- The shape of what feeds a lane: each term is of an operand that its family names, read at the row's sign; it has a width of one of the four sizes, a
-- number below the lanes of that size, and the bytes that the family has for its operand; and it counts where its governed lane's bit is set.
-- Assumes nothing.
use Prim.Native.Nat.{ℕ, zero, suc, ◌+◌, ◌*◌, ◌-◌, ◌/◌, ◌≤◌, ◌<◌}
use mathlib.Core.Path.{◌≡◌, refl, sym}
use mathlib.Core.Bool.{Bool, true, false, cond}
use mathlib.Core.List.{List}
use native.Mathlib.Omega.{arith}
use lib.Dec.{ltb}
use Rattle.machine.specs.Size.{sizes, vector_bytes, segment_bytes}
use Rattle.machine.proofs.Sizes.{of_four}
use Rattle.lanes.specs.Lane.{width_of, active}
use Rattle.lanes.specs.Sum.{each}
use Rattle.rows.specs.declared.Parameters.{Parameters}
use Rattle.rows.specs.declared.Family.{Family}
use Rattle.rows.specs.declared.Family.TheVariants.{Low, Wide}
use Rattle.rows.specs.declared.LowFamily.{LowFamily}
use Rattle.rows.specs.declared.LowFamily.TheVariants.{Reduction, Segment, Long}
use Rattle.rows.specs.declared.WideFamily.{WideFamily}
use Rattle.rows.specs.declared.WideFamily.TheVariants.{Pairwise, Widening}
use Rattle.sums.specs.Panel.{per_segment}
use Rattle.words.specs.Field.{source_digits, second_digits}
use Rattle.totals.specs.Calls.{lanes_at}
use Rattle.about.specs.Widths.{family_bytes}
use Rattle.about.specs.About.{reads_destination}
use Rattle.about.specs.declared.Operand.{Operand}
use Rattle.about.specs.declared.Operand.TheVariants.{First, Second, Destination}
use Rattle.meaning.specs.Terms.{Source, Operand1, Operand2, Old, Term, term, data_bytes, subtracted_where, half_term, first_term, governed_term, free_term}
use Rattle.meaning.specs.Meaning.{family_terms, lanes_after}
use Rattle.meaning.specs.Theorems.{is_governed}
use Rattle.meaning.proofs.Sizes.{false_not_true}
use Rattle.demands.specs.Told.{Each, counts_by, governed_lane}

-- half the width is that of the size below, and lane e lies over two of its lanes
half_width : (size : ℕ) → size < sizes → 1 ≤ size → width_of (size - 1) ≡ width_of size / 2
half_width = of_four (λ n. 1 ≤ n → width_of (n - 1) ≡ width_of n / 2) (λ h. absurd (omega arith)) (λ h. refl) (λ h. refl) (λ h. refl)

half_inside : (k e i : ℕ) → i ≤ 1 → (size : ℕ) → size < sizes → 1 ≤ size → e < lanes_at k size → 2 * e + i < lanes_at k (size - 1)
half_inside k e i l =
    of_four (λ n. 1 ≤ n → e < lanes_at k n → 2 * e + i < lanes_at k (n - 1)) (λ h m. absurd (omega arith)) (λ h m. omega arith) (λ h m. omega arith) (λ h m. omega arith)

-- place e of segment i lies within the register
segment_inside : (k e i : ℕ) → i < vector_bytes k / segment_bytes → (size : ℕ) → size < sizes → e < per_segment (width_of size)
    → i * per_segment (width_of size) + e < lanes_at k size
segment_inside k e i l =
    of_four (λ n. e < per_segment (width_of n) → i * per_segment (width_of n) + e < lanes_at k n) (λ m. omega arith) (λ m. omega arith) (λ m. omega arith) (λ m. omega arith)

-- the low 8 or 16 bytes lie within the register
low_bytes_lem : (q : ℕ) → q < 2 → data_bytes q ≤ segment_bytes
low_bytes_lem zero h = omega arith
low_bytes_lem (suc zero) h = omega arith
low_bytes_lem (suc (suc q)) h = absurd (omega arith)

low_inside : (k bytes i : ℕ) → 1 ≤ k → bytes ≤ segment_bytes → (size : ℕ) → size < sizes → i < bytes / width_of size → i < lanes_at k size
low_inside k bytes i some few =
    of_four (λ n. i < bytes / width_of n → i < lanes_at k n) (λ m. omega arith) (λ m. omega arith) (λ m. omega arith) (λ m. omega arith)

-- the operand of a row that a source is
abbrev pub operand_for : Source → Operand
operand_for Operand1 = First
operand_for Operand2 = Second
operand_for Old = Destination

-- whether a family's words name an operand, and the sign at which they read it
abbrev pub named_by : Family → Source → Bool
named_by family Operand1 = ltb 0 (source_digits family)
named_by family Operand2 = ltb 0 (second_digits family)
named_by family Old = reads_destination family

abbrev pub sign_by : Bool → Source → Bool
sign_by signed Operand1 = signed
sign_by signed Operand2 = signed
sign_by signed Old = false

-- the shape of a term that may feed lane e
pub record Shaped (family : Family) (ps : Parameters) (size k : ℕ) (mask : List ℕ) (e : ℕ) (t : Term) : Type 0 where
  pub named : named_by family t.source ≡ true
  pub sign : t.signed ≡ sign_by ps.signed t.source
  pub asked : ℕ
  pub known : asked < sizes
  pub width : width_of asked ≡ t.width
  pub inside : t.number < lanes_at k asked
  pub row : family_bytes family ps.wide (operand_for t.source) (width_of size) ≡ t.width
  pub counts : t.is_active ≡ counts_by t.source (is_governed family) (active (width_of size) (governed_lane (reads_destination family) e t) mask)
  pub governed : is_governed family ≡ true → governed_lane (reads_destination family) e t < lanes_at k size

-- what holds of each number's term holds of each term
each_term : (P : Term → Type 0) (g : ℕ → Term) (i n : ℕ) → ((j : ℕ) → i ≤ j → j < i + n → P (g j)) → Each P (each g i n)
each_term P g i zero h = tt
each_term P g i (suc n) h = (h i (omega arith) (omega arith), each_term P g (suc i) n (λ j l m. h j (omega arith) (omega arith)))

below_term : (P : Term → Type 0) (g : ℕ → Term) (n : ℕ) → ((j : ℕ) → j < n → P (g j)) → Each P (each g 0 n)
below_term P g n h = each_term P g 0 n (λ j l m. h j (omega arith))

-- no predicate governs where there is none
ungoverned : {X : Type 0} → false ≡ true → X
ungoverned e = absurd (false_not_true e)

-- which of its two halves a lane is fed by
half_most : (top : Bool) → cond top 1 0 ≤ 1
half_most true = omega arith
half_most false = omega arith

module _ (ps : Parameters) (size : ℕ) (small : size < sizes) (k : ℕ) (mask : List ℕ) (e : ℕ) where
  -- the families that write the low bytes; addqv's elements have no sign
  pub low_shaped : (low : LowFamily) (q : ℕ) → (low ≡ Segment → ps.signed ≡ false) → q < 2 → 1 ≤ k → e < lanes_after (Low low) (width_of size) (vector_bytes k)
      → Each (Shaped (Low low) ps size k mask e) (family_terms (Low low) ps (width_of size) q (vector_bytes k) mask e)
  low_shaped Reduction q unsigned few some lies =
      below_term (Shaped (Low Reduction) ps size k mask e) (governed_term ps.signed (width_of size) mask) (lanes_at k size) (λ i m. record {
        named = refl;
        sign = refl;
        asked = size;
        known = small;
        width = refl;
        inside = m;
        row = refl;
        counts = refl;
        governed = λ g. m;
      })
  low_shaped Segment q unsigned few some lies =
      below_term (Shaped (Low Segment) ps size k mask e) (λ s. governed_term false (width_of size) mask (s * per_segment (width_of size) + e)) (vector_bytes k / segment_bytes)
      (λ i m. record {
        named = refl;
        sign = sym (unsigned refl);
        asked = size;
        known = small;
        width = refl;
        inside = segment_inside k e i m size small lies;
        row = refl;
        counts = refl;
        governed = λ g. segment_inside k e i m size small lies;
      })
  low_shaped Long q unsigned few some lies =
      below_term (Shaped (Low Long) ps size k mask e) (free_term ps.signed (width_of size)) (data_bytes q / width_of size) (λ i m. record {
        named = refl;
        sign = refl;
        asked = size;
        known = small;
        width = refl;
        inside = low_inside k (data_bytes q) i some (low_bytes_lem q few) size small m;
        row = refl;
        counts = refl;
        governed = λ g. ungoverned g;
      })

  module _ (wider : 1 ≤ size) (lies : e < lanes_at k size) where
    -- half element i of lane e, of a word that pairs: the lane's own bit governs both
    pair_shaped : (i : ℕ) → i ≤ 1 → Shaped (Wide Pairwise) ps size k mask e (term (active (width_of size) e mask) Operand1 ps.signed (width_of size / 2) (2 * e + i))
    pair_shaped i few = record {
      named = refl;
      sign = refl;
      asked = size - 1;
      known = omega arith;
      width = half_width size small wider;
      inside = half_inside k e i few size small wider lies;
      row = refl;
      counts = refl;
      governed = λ g. lies;
    }

    -- the first element of a word that widens: of a wide form lane e itself, else a half of it
    first_shaped : (w : Bool) → ps.wide ≡ w → Shaped (Wide Widening) ps size k mask e (first_term ps (width_of size) e)
    first_shaped true x = record {
      named = refl;
      sign = refl;
      asked = size;
      known = small;
      width = rw x;
      inside = rw x lies;
      row = refl;
      counts = refl;
      governed = λ g. ungoverned g;
    }
    first_shaped false x = record {
      named = refl;
      sign = refl;
      asked = size - 1;
      known = omega arith;
      width = rw x (half_width size small wider);
      inside = rw x (half_inside k e _ (half_most ps.top) size small wider lies);
      row = refl;
      counts = refl;
      governed = λ g. ungoverned g;
    }

    -- its second element
    second_shaped : Shaped (Wide Widening) ps size k mask e (subtracted_where ps.subtract (half_term Operand2 ps (width_of size) e))
    second_shaped = record {
      named = refl;
      sign = refl;
      asked = size - 1;
      known = omega arith;
      width = half_width size small wider;
      inside = half_inside k e _ (half_most ps.top) size small wider lies;
      row = refl;
      counts = refl;
      governed = λ g. ungoverned g;
    }

    -- the old element of a word that pairs
    old_shaped : Shaped (Wide Pairwise) ps size k mask e (term true Old false (width_of size) e)
    old_shaped =
        record { named = refl; sign = refl; asked = size; known = small; width = refl; inside = lies; row = refl; counts = refl; governed = λ g. lies }

    -- the families that write every lane
    pub wide_shaped : (wide : WideFamily) (q : ℕ) → Each (Shaped (Wide wide) ps size k mask e) (family_terms (Wide wide) ps (width_of size) q (vector_bytes k) mask e)
    wide_shaped Pairwise q = (old_shaped, (pair_shaped 0 (omega arith), (pair_shaped 1 (omega arith), tt)))
    wide_shaped Widening q = (first_shaped ps.wide refl, (second_shaped, tt))
