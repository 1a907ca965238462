-- What the layouts of the versions have in common: a header holds the count, and is short; an entry's number is that of a register that there is, and
-- each vector has one. A predicate has one in every version but the former. Of the versions that are defined: their numbers fit their two bytes, and
-- their entries start right after the count. What is said of every version is shown of each line of the table.
-- Assumes nothing.
use Prim.Native.Nat.{ℕ, ◌+◌, ◌-◌, ◌≤◌, ◌<◌}
use mathlib.Core.Path.{◌≡◌, refl, ◌∙◌, ap}
use mathlib.Core.Logic.{inl, inr, ◌↔◌}
use mathlib.Core.Bool.{Bool, true, false, not, cond}
use mathlib.Core.List.{List}
use native.Mathlib.Omega.{arith}
use lib.Dec.{eqb, leb}
use borrow.Author.Tests.{le-leb, lt-leb, eqb-true, eqb-false, ne_eqb}
use Rattle.machine.specs.Size.{vectors, predicates}
use Rattle.machine.proofs.Legal.{Among, among_given}
use Rattle.registers.specs.declared.Kind.{Kind}
use Rattle.registers.specs.declared.Kind.TheVariants.{Vector, Predicate}
use Rattle.registers.specs.Register.{Register, IsRegister, register_count, vector, predicate, entry_number, numbered}
use Rattle.registers.proofs.Numbers.{numbered_is, vector_number, predicate_number}
use Rattle.entries.specs.declared.Layout.{Layout}
use Rattle.entries.specs.Layout.{count_at, count_bytes, former_version, journal_versions, is_version, laid_out, layout_of, version_of, may_name}

-- the two lines
abbrev pub former : Layout
former = laid_out (count_at + count_bytes) (vectors - 1)

abbrev pub later : Layout
later = laid_out (count_at + count_bytes) (vectors + predicates - 1)

-- what holds of each line holds of every version
of_lines : (P : Layout → Type 0) → P former → P later → (version : ℕ) → P (layout_of version)
unfolding layout_of
of_lines P first second version = by (eqb version former_version)
  where
    by : (t : Bool) → P (cond t former later)
    by true = first
    by false = second

-- the line of the former version, and that of every other
pub former_line : layout_of former_version ≡ former
unfolding layout_of
former_line = refl

pub later_line : (version : ℕ) → (version ≡ former_version → ⊥) → layout_of version ≡ later
unfolding layout_of
later_line version other = rw (ne_eqb version former_version other)

-- a header's bytes
pub header_least : (version : ℕ) → count_at + count_bytes ≤ (layout_of version).header
header_least = of_lines (λ l. count_at + count_bytes ≤ l.header) (omega arith) (omega arith)

pub header_most : (version : ℕ) → (layout_of version).header ≤ 16
header_most = of_lines (λ l. l.header ≤ 16) (omega arith) (omega arith)

-- an entry's numbers are those of registers that there are
pub greatest_register : (version n : ℕ) → n ≤ (layout_of version).greatest → n < vectors + predicates
greatest_register version n h = omega (arith, of_lines (λ l. l.greatest < vectors + predicates) (omega arith) (omega arith) version)

pub greatest_is : (version n : ℕ) → n ≤ (layout_of version).greatest → IsRegister (numbered n)
greatest_is version n h = numbered_is n (greatest_register version n h)

-- every vector has one; a predicate has one exactly where the version is not the former
pub vector_named : (version n : ℕ) → n < vectors → n ≤ (layout_of version).greatest
vector_named version n h = omega (arith, of_lines (λ l. vectors ≤ l.greatest + 1) (omega arith) (omega arith) version)

pub predicate_named : (version n : ℕ) → n < predicates → (version ≡ former_version → ⊥) → entry_number (predicate n) ≤ (layout_of version).greatest
predicate_named version n h other =
    rw (predicate_number n) (omega (arith, ap (λ (l : Layout). l.greatest) (later_line version other)))

-- the former version has numbers of vectors alone
pub former_vector : (n : ℕ) → n ≤ (layout_of former_version).greatest → n < vectors
former_vector n h = omega (arith, ap (λ (l : Layout). l.greatest) former_line)

pub former_names_none : (n : ℕ) → (layout_of former_version).greatest < entry_number (predicate n)
former_names_none n = rw (predicate_number n) (omega (arith, ap (λ (l : Layout). l.greatest) former_line))

pub predicate_exactly : (version n : ℕ) → n < predicates → entry_number (predicate n) ≤ (layout_of version).greatest ↔ (version ≡ former_version → ⊥)
predicate_exactly version n h = (λ named is. unnamed (rw is at named), predicate_named version n h)
  where
    unnamed : entry_number (predicate n) ≤ (layout_of former_version).greatest → ⊥
    unnamed named = omega (arith, former_names_none n)

-- so a register has one, where the version of a predicate is not the former
pub register_named : (version : ℕ) (r : Register) → IsRegister r → (r.kind ≡ Predicate → version ≡ former_version → ⊥)
    → entry_number r ≤ (layout_of version).greatest
register_named version r is other = by r.kind r.number is other
  where
    by : (kind : Kind) (n : ℕ) → n < register_count kind → (kind ≡ Predicate → version ≡ former_version → ⊥)
        → entry_number (record { kind = kind; number = n }) ≤ (layout_of version).greatest
    by Vector n h other = rw (vector_number n) (vector_named version n h)
    by Predicate n h other = predicate_named version n h (other refl)

-- and a journal's entry may name every vector, and a predicate exactly where its version is not the former
pub vector_may : (n : ℕ) (journal : List ℕ) → n < vectors → may_name (entry_number (vector n)) journal ≡ true
vector_may n journal h = rw (vector_number n) (le-leb _ _ (vector_named (version_of journal) n h))

pub predicate_may : (n : ℕ) (journal : List ℕ) → n < predicates → may_name (entry_number (predicate n)) journal ≡ not (eqb (version_of journal) former_version)
predicate_may n journal h = by (eqb (version_of journal) former_version) refl
  where
    by : (t : Bool) → eqb (version_of journal) former_version ≡ t → may_name (entry_number (predicate n)) journal ≡ not t
    by true is =
        ap (λ (version : ℕ). leb (entry_number (predicate n)) (layout_of version).greatest) (eqb-true (version_of journal) former_version is)
        ∙ lt-leb _ _ (former_names_none n)
    by false is = le-leb _ _ (predicate_named (version_of journal) n h (eqb-false (version_of journal) former_version is))

-- a version that is defined
pub version_few : (version : ℕ) → is_version version ≡ true → version < 65536
version_few version h = few (among_given version journal_versions h)
  where
    few : Among version journal_versions → version < 65536
    few (inl e) = omega arith
    few (inr e) = omega arith

pub header_plain : (version : ℕ) → is_version version ≡ true → (layout_of version).header ≡ count_at + count_bytes
header_plain version h = of_lines (λ l. l.header ≡ count_at + count_bytes) refl refl version

-- the numbers of version 1, and of version 2
pub first_header : (layout_of 1).header ≡ 8
unfolding layout_of
first_header = refl

pub first_greatest : (layout_of 1).greatest ≡ 31
unfolding layout_of
first_greatest = refl

pub second_header : (layout_of 2).header ≡ 8
unfolding layout_of
second_header = refl

pub second_greatest : (layout_of 2).greatest ≡ 47
unfolding layout_of
second_greatest = refl

-- and the numbers that are versions
pub versions_literal : (is_version 0 ≡ false) × (is_version 1 ≡ true) × (is_version 2 ≡ true) × (is_version 3 ≡ false)
versions_literal = (refl, refl, refl, refl)
