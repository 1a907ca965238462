-- What the tests of the calls tell: where none is given, the registers have their sizes and the lanes their places.
-- Assumes nothing.
use Prim.Native.Nat.{ℕ, ◌*◌, ◌/◌, ◌≤◌, ◌<◌}
use mathlib.Core.Path.{◌≡◌, refl}
use mathlib.Core.List.{List}
use native.Mathlib.Nat.{le-div_iff_mul-le}
use native.Mathlib.Omega.{arith}
use lib.Dec.{ltb, leb}
use lib.ListN.{length}
use borrow.Author.Tests.{ltb-true, leb-true, not-false, eq-eqb, lt-ltb}
use Rattle.machine.specs.Size.{vectors, governing, sizes, most_length, vector_bytes, predicate_bytes, predicates, vector_file, predicate_file, Files}
use Rattle.machine.specs.Refusal.{DONE, files_tests}
use Rattle.machine.proofs.Tests.{first_none, none_refused}
use Rattle.machine.proofs.Checks.{legal_most, files_checked}
use Rattle.parts.specs.Part.{both}
use Rattle.parts.proofs.Same.{both_left, both_right}
use Rattle.registers.specs.Register.{vector_of, predicate_of, InFile}
use Rattle.registers.specs.declared.Kind.TheVariants.{Vector, Predicate}
use Rattle.registers.proofs.Places.{in_files, length_register}
use Rattle.lanes.specs.Lane.{width_of}
use Rattle.sums.specs.Sums.{Governs}
use Rattle.sums.specs.Panel.{WholeSegments}
use Rattle.sums.proofs.Widths.{width_legal}
use Rattle.totals.specs.Calls.{in_range, lane_range, panel_tests, panel_refused, subtotal_tests, subtotal_refused}

-- what the calls work from: a legal length, files of its sizes, and a source, a predicate and a size that there are
pub record Accepted (k : ℕ) (z p : List ℕ) (source predicate size : ℕ) : Type 0 where
  pub lent : Files k z p
  pub source_is : source < vectors
  pub predicate_is : predicate < predicates
  pub size_is : size < sizes

module _ (k : ℕ) (z p : List ℕ) (source predicate size : ℕ) where
  -- of a panel that is not refused: the length, the files and the numbers are right
  pub panel_accepted : panel_refused k z p source predicate size ≡ DONE → Accepted k z p source predicate size
  panel_accepted h =
      let none = none_refused (files_tests k (length z) (length p)) tt _ h in
      let numbers = not-false (in_range source predicate size) (first_none (panel_tests k z p source predicate size) tt h).1.1.0 in
      let rest = both_right (ltb source vectors) (both (ltb predicate governing) (ltb size sizes)) numbers in
      record {
        lent = files_checked k z p _ refl none.0;
        source_is = ltb-true source vectors (both_left (ltb source vectors) (both (ltb predicate governing) (ltb size sizes)) numbers);
        predicate_is = omega (arith, ltb-true predicate governing (both_left (ltb predicate governing) (ltb size sizes) rest));
        size_is = ltb-true size sizes (both_right (ltb predicate governing) (ltb size sizes) rest);
      }

  -- a panel of files of a legal length and of numbers that there are is not refused
  pub panel_done : Files k z p → source < vectors → predicate < governing → size < sizes → panel_refused k z p source predicate size ≡ DONE
  panel_done files a b c =
      rw (
        files.legal,
        eq-eqb (length z) (vector_file k) files.vector_size,
        eq-eqb (length p) (predicate_file k) files.predicate_size,
        lt-ltb source vectors a,
        lt-ltb predicate governing b,
        lt-ltb size sizes c,
      )

  -- a subtotal that is not refused, and its range
  pub subtotal_accepted : (a b : ℕ) → subtotal_refused k z p source predicate size a b ≡ DONE
      → Accepted k z p source predicate size × (a ≤ b) × (b ≤ vector_bytes k / width_of size)
  subtotal_accepted a b h =
      let range = not-false (lane_range k size a b) (first_none (subtotal_tests k z p source predicate size a b) tt h).1.1.1.0 in (
        panel_accepted (none_refused (panel_tests k z p source predicate size) tt _ h).0,
        leb-true a b (both_left (leb a b) (leb b (vector_bytes k / width_of size)) range),
        leb-true b (vector_bytes k / width_of size) (both_right (leb a b) (leb b (vector_bytes k / width_of size)) range),
      )

  module _ (h : Accepted k z p source predicate size) where
    most : k ≤ most_length
    most = legal_most k h.lent.legal

    pub source_in : InFile k Vector source z
    source_in = in_files k z p Vector source h.lent h.source_is

    pub predicate_in : InFile k Predicate predicate p
    predicate_in = in_files k z p Predicate predicate h.lent h.predicate_is

    source_length : length (vector_of k source z) ≡ vector_bytes k
    source_length = length_register k Vector source z source_in

    predicate_length : length (predicate_of k predicate p) ≡ predicate_bytes k
    predicate_length = length_register k Predicate predicate p predicate_in

    pub governs : Governs (width_of size) (predicate_of k predicate p) (vector_of k source z)
    governs = record {
      least = (width_legal size h.size_is).0;
      most = (width_legal size h.size_is).1;
      covers = omega (arith, source_length, predicate_length);
      bits = omega (arith, predicate_length, most);
    }

    -- the register has whole segments, and lanes up to b lie within it
    pub whole_segments : WholeSegments (vector_of k source z)
    whole_segments = record { whole = omega (arith, source_length); few = omega (arith, source_length, most) }

    pub lanes_within : (b : ℕ) → b ≤ vector_bytes k / width_of size → b * width_of size ≤ length (vector_of k source z)
    lanes_within b l = rw source_length ((le-div_iff_mul-le {k = width_of size} {x = b} {y = vector_bytes k} (width_legal size h.size_is).0).0 l)
