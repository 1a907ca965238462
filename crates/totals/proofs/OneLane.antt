-- What the tests of a lane tell: where none is given, the lane lies in its register and its bit in the predicate register.
-- Assumes nothing.
use Prim.Native.Nat.{ℕ, suc, ◌+◌, ◌*◌, ◌≤◌, ◌<◌}
use mathlib.Core.Path.{◌≡◌, refl}
use mathlib.Core.Bool.{Bool}
use mathlib.Core.List.{List}
use native.Mathlib.Omega.{arith}
use lib.Dec.{ltb}
use lib.ListN.{length}
use borrow.Author.Tests.{ltb-true, not-false, eq-eqb, lt-ltb}
use Rattle.parts.proofs.Same.{both_left, both_right}
use Rattle.machine.specs.Size.{vectors, predicates, sizes, vector_file, predicate_file}
use Rattle.machine.specs.Refusal.{DONE, files_tests}
use Rattle.machine.proofs.Tests.{first_none, none_refused}
use Rattle.machine.proofs.Checks.{files_checked}
use Rattle.registers.specs.declared.Kind.TheVariants.{Vector}
use Rattle.registers.specs.Register.{register_at, vector_of, predicate_of}
use Rattle.lanes.specs.Lane.{width_of, active, HasBit}
use Rattle.lanes.specs.Integer.{residue}
use Rattle.lanes.specs.Sum.{element, ElementIn}
use Rattle.totals.specs.Calls.{lanes_at}
use Rattle.totals.specs.Lane.{is_lane, lane_tests, lane_refused, lane_answer}
use Rattle.totals.specs.Lane.{Lane}
use Rattle.totals.proofs.Accepted.{Accepted, governs, lanes_within}

module _ (k : ℕ) (z p : List ℕ) (source predicate size e : ℕ) where
  -- of a lane that is not refused: the length, the files and the numbers are right
  pub lane_accepted : lane_refused k z p source predicate size e ≡ DONE → Accepted k z p source predicate size × (e < lanes_at k size)
  unfolding lane_refused
  lane_accepted h =
      let none = none_refused (files_tests k (length z) (length p)) tt _ h in
      let numbers = not-false (is_lane k source predicate size e) (first_none (lane_tests k z p source predicate size e) tt h).1.1.0 in
      let rest = both_right (ltb source vectors) _ numbers in
      let last = both_right (ltb predicate predicates) _ rest in (
        record {
          lent = files_checked k z p _ refl none.0;
          source_is = ltb-true source vectors (both_left (ltb source vectors) _ numbers);
          predicate_is = ltb-true predicate predicates (both_left (ltb predicate predicates) _ rest);
          size_is = ltb-true size sizes (both_left (ltb size sizes) _ last);
        },
        ltb-true e (lanes_at k size) (both_right (ltb size sizes) _ last),
      )

  -- and a lane of files of a legal length and of numbers that there are is not refused
  pub lane_done : Accepted k z p source predicate size → e < lanes_at k size → lane_refused k z p source predicate size e ≡ DONE
  unfolding lane_refused
  lane_done h l =
      rw (
        h.lent.legal,
        eq-eqb (length z) (vector_file k) h.lent.vector_size,
        eq-eqb (length p) (predicate_file k) h.lent.predicate_size,
        lt-ltb source vectors h.source_is,
        lt-ltb predicate predicates h.predicate_is,
        lt-ltb size sizes h.size_is,
        lt-ltb e (lanes_at k size) l,
      )

  module _ (h : Accepted k z p source predicate size) (l : e < lanes_at k size) where
    -- the lane ends within its register
    ends : e * width_of size + width_of size ≤ length (vector_of k source z)
    ends = rw next at (lanes_within k z p source predicate size h (suc e) l)
      where
        next : suc e * width_of size ≡ e * width_of size + width_of size
        next = omega arith

    pub lane_in : ElementIn (width_of size) e (vector_of k source z)
    lane_in = let g = governs k z p source predicate size h in record { least = g.least; most = g.most; inside = ends }

    pub bit_in : HasBit (width_of size) e (predicate_of k predicate p)
    bit_in = let g = governs k z p source predicate size h in record { inside = omega (arith, ends, g.least, g.covers); few = g.bits }

-- what is told of a lane where nothing refuses it, from its four parts
pub lane_told_lem : (k : ℕ) (z p : List ℕ) (source predicate size : ℕ) (signed : Bool) (e : ℕ) {n v s b : ℕ} {a : Bool}
    → n ≡ lane_refused k z p source predicate size e
    → lane_refused k z p source predicate size e ≡ DONE
    → v ≡ residue 64 (element signed (width_of size) (vector_of k source z) e)
    → a ≡ active (width_of size) e (predicate_of k predicate p)
    → s ≡ register_at k Vector source + e * width_of size
    → b ≡ e * width_of size
    → ◌≡◌ {A = Lane} (record { number = n; value = v; active = a; start = s; bit = b }) (lane_answer k z p source predicate size signed e)
lane_told_lem k z p source predicate size signed e number done value act start bit = rw (number, done, value, act, start, bit)
