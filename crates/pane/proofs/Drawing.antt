-- What is drawn of a register: DONE exactly where the length is legal, the files have its sizes and the number is below the count;
-- then the part is exactly the file's bytes there, and never empty. With a refusal it is empty, at the start of the vector file.
-- Assumes nothing.
use Prim.Native.Nat.{ℕ, suc, ◌+◌, ◌≤◌, ◌<◌}
use mathlib.Core.Path.{◌≡◌, refl, sym, ◌∙◌, ap}
use mathlib.Core.Logic.{◌↔◌}
use mathlib.Core.Bool.{true}
use mathlib.Core.List.{List, []}
use denote.Ref.{Bor}
use lib.ListN.{length, drop, get_or}
use lib.Seq.{get_or-take, get_or-drop}
use borrow.Author.Tests.{leb-false, lt-leb, eq-eqb}
use native.Mathlib.Omega.{arith}
use Rattle.machine.specs.Refusal.{DONE, First, files_tests, in_order}
use Rattle.machine.proofs.Tests.{first_none, none_refused, first_exactly, unless_refused_lem}
use Rattle.machine.proofs.Checks.{legal_least, files_checked}
use Rattle.registers.specs.declared.Kind.{Kind}
use Rattle.registers.specs.declared.Kind.TheVariants.{Vector, Predicate}
use Rattle.registers.specs.Register.{file_of, register_bytes, register_at, InFile}
use Rattle.registers.proofs.Places.{in_files, length_register}
use Rattle.pane.specs.Drawn.{register_tests, register_refused, Drawable, register_part, register_place}

-- the tests of a register that is to be drawn stand in the paper's order
pub register_in_order : (k : ℕ) (z p : List ℕ) (kind : Kind) (r : ℕ) → in_order (register_tests k z p kind r) ≡ true
register_in_order k z p kind r = refl

-- where nothing refuses, the register can be drawn
pub drawable : (k : ℕ) (z p : List ℕ) (kind : Kind) (r : ℕ) → register_refused k z p kind r ≡ DONE → Drawable k z p kind r
drawable k z p kind r e =
    record {
      lent = files_checked k z p _ refl (none_refused (files_tests k (length z) (length p)) tt _ e).0;
      below = leb-false _ r (first_none (register_tests k z p kind r) tt e).1.1.0;
    }

-- DONE exactly where a register can be drawn
pub drawn_exactly : (k : ℕ) (z p : List ℕ) (kind : Kind) (r : ℕ) → register_refused k z p kind r ≡ DONE ↔ Drawable k z p kind r
drawn_exactly k z p kind r = (
  drawable k z p kind r,
  λ d. rw (d.lent.legal, eq-eqb _ _ d.lent.vector_size, eq-eqb _ _ d.lent.predicate_size, lt-leb _ _ d.below),
)

-- each refusal of a register that is to be drawn comes exactly where its test holds and none before it does
pub register_refused_exactly : (k : ℕ) (z p : List ℕ) (kind : Kind) (r n : ℕ) → register_refused k z p kind r ≡ suc n ↔ First (register_tests k z p kind r) (suc n)
register_refused_exactly k z p kind r n = first_exactly (register_tests k z p kind r) n

-- a register that can be drawn lies in its file, and has bytes
pub in_file : (k : ℕ) (z p : List ℕ) (kind : Kind) (r : ℕ) → Drawable k z p kind r → InFile k kind r (file_of kind z p)
in_file k z p kind r d = in_files k z p kind r d.lent d.below

bytes_some : (k : ℕ) (kind : Kind) → 1 ≤ k → 1 ≤ register_bytes k kind
bytes_some k Vector h = omega arith
bytes_some k Predicate h = omega arith

module _ (k : ℕ) (z p : List ℕ) (kind : Kind) (r : ℕ) (done : register_refused k z p kind r ≡ DONE) where
  -- the drawn part has as many bytes as a register of its kind
  pub part_length : length (register_part k z p kind r) ≡ register_bytes k kind
  part_length = rw done (length_register k kind r (file_of kind z p) (in_file k z p kind r (drawable k z p kind r done)))

  -- the drawn part's bytes are the file's, from the register's start on
  pub part_byte : (i : ℕ) → i < register_bytes k kind → get_or (register_part k z p kind r) i 0 ≡ get_or (file_of kind z p) (register_at k kind r + i) 0
  part_byte i h = rw (done, get_or-take (register_bytes k kind) (drop (register_at k kind r) (file_of kind z p)) i 0 h, get_or-drop (register_at k kind r) (file_of kind z p) i 0)

-- the drawn part is empty exactly with a refusal
pub part_empty : (k : ℕ) (z p : List ℕ) (kind : Kind) (r : ℕ) → register_part k z p kind r ≡ [] ↔ (register_refused k z p kind r ≡ DONE → ⊥)
part_empty k z p kind r = (
  λ e done. omega (arith, bytes_some k kind (legal_least k (drawable k z p kind r done).lent.legal), sym (part_length k z p kind r done) ∙ ap length e),
  λ h. unless_refused_lem _ _ _ h,
)

-- with a refusal the drawn part lies at the start of the vector file
pub empty_place : (k : ℕ) (z p : Bor (List ℕ)) (kind : Kind) (r : ℕ) → (register_refused k z.now p.now kind r ≡ DONE → ⊥) → register_place k z p kind r ≡ z.ref_ptr
empty_place k z p kind r h = unless_refused_lem _ _ _ h
