-- A register of a state is read and written: it reads as what was written, a second write is the only one, and writing what it reads leaves the
-- state. A file of a kind in a state has the same laws, by cases on the kind.
-- Assumes nothing.
use Prim.Native.Nat.{ℕ, ◌+◌, ◌≤◌}
use mathlib.Core.Path.{◌≡◌, refl, ◌∙◌, ap}
use mathlib.Core.List.{List}
use native.Mathlib.Nat.{min-le_left}
use native.Mathlib.Omega.{arith}
use lib.ListN.{length, length-take, drop, get_or}
use Rattle.parts.specs.Part.{Outside}
use Rattle.parts.proofs.Parts.{part_with, with_again, with_same, get_d_outside}
use Rattle.registers.specs.declared.Kind.{Kind}
use Rattle.registers.specs.declared.Kind.TheVariants.{Vector, Predicate}
use Rattle.registers.specs.Register.{Register, IsRegister, file_of, register_bytes, register_at, with_register, InFile}
use Rattle.registers.specs.State.{State, Sized, contents, with_contents, read, write}
use Rattle.registers.proofs.Places.{in_files, register_inside, length_register, length_with_register}

-- the file that was written, a file written again, and one written as it stands
contents_with : (kind : Kind) (file : List ℕ) (s : State) → contents kind (with_contents kind file s) ≡ file
contents_with Vector file s = refl
contents_with Predicate file s = refl

with_contents_again : (kind : Kind) (file new : List ℕ) (s : State) → with_contents kind new (with_contents kind file s) ≡ with_contents kind new s
with_contents_again Vector file new s = refl
with_contents_again Predicate file new s = refl

with_contents_same : (kind : Kind) (s : State) → with_contents kind (contents kind s) s ≡ s
with_contents_same Vector s = refl
with_contents_same Predicate s = refl

-- the file of the other kind stays
contents_other : (kind other : Kind) (file : List ℕ) (s : State) → (other ≡ kind → ⊥) → contents other (with_contents kind file s) ≡ contents other s
contents_other Vector Vector file s h = absurd (h refl)
contents_other Vector Predicate file s h = refl
contents_other Predicate Vector file s h = refl
contents_other Predicate Predicate file s h = absurd (h refl)

-- either file keeps its size where the one that is written does
contents_sizes : (kind other : Kind) (file : List ℕ) (s : State) → length file ≡ length (contents kind s)
    → length (contents other (with_contents kind file s)) ≡ length (contents other s)
contents_sizes Vector Vector file s h = h
contents_sizes Vector Predicate file s h = refl
contents_sizes Predicate Vector file s h = refl
contents_sizes Predicate Predicate file s h = h

-- a file of the same size
with_contents_sized : (kind : Kind) (k : ℕ) (file : List ℕ) (s : State) → Sized k s → length file ≡ length (contents kind s) → Sized k (with_contents kind file s)
with_contents_sized Vector k file s sized same = record { legal = sized.legal; vector_size = same ∙ sized.vector_size; predicate_size = sized.predicate_size }
with_contents_sized Predicate k file s sized same = record { legal = sized.legal; vector_size = sized.vector_size; predicate_size = same ∙ sized.predicate_size }

-- a register reads as no more than its bytes, in a file of any size
pub read_most : (k : ℕ) (r : Register) (s : State) → length (read k r s) ≤ register_bytes k r.kind
read_most k r s =
    let rest = drop (register_at k r.kind r.number) (contents r.kind s) in
    omega (arith, length-take (register_bytes k r.kind) rest, min-le_left (register_bytes k r.kind) (length rest))

-- a register written as it reads
pub write_read : (k : ℕ) (r : Register) (s : State) → write k r (read k r s) s ≡ s
write_read k r s =
    ap (λ (file : List ℕ). with_contents r.kind file s) (with_same (register_at k r.kind r.number) (register_bytes k r.kind) (contents r.kind s))
    ∙ with_contents_same r.kind s

module _ (k : ℕ) (r : Register) (s : State) (sized : Sized k s) (is : IsRegister r) where
  pub register_in : InFile k r.kind r.number (file_of r.kind s.z s.p)
  register_in = in_files k s.z s.p r.kind r.number sized is

  inside : register_at k r.kind r.number + register_bytes k r.kind ≤ length (contents r.kind s)
  inside = register_inside k r.kind r.number (contents r.kind s) register_in

  pub length_read : length (read k r s) ≡ register_bytes k r.kind
  length_read = length_register k r.kind r.number (contents r.kind s) register_in

  -- with other bytes, as many, in it
  module _ (bytes : List ℕ) (whole : length bytes ≡ register_bytes k r.kind) where
    abbrev written : List ℕ
    written = with_register k r.kind r.number bytes (contents r.kind s)

    pub write_sized : Sized k (write k r bytes s)
    write_sized =
        with_contents_sized r.kind k written s sized
        (length_with_register k r.kind r.number (contents r.kind s) register_in bytes whole)

    pub read_write : read k r (write k r bytes s) ≡ bytes
    read_write =
        rw (contents_with r.kind written s)
        (part_with (register_at k r.kind r.number) (register_bytes k r.kind) bytes (contents r.kind s) inside whole)

    pub write_again : (new : List ℕ) → write k r new (write k r bytes s) ≡ write k r new s
    write_again new =
        rw (contents_with r.kind written s)
        (with_contents_again r.kind written (with_register k r.kind r.number new written) s
        ∙ ap (λ (file : List ℕ). with_contents r.kind file s)
        (with_again (register_at k r.kind r.number) (register_bytes k r.kind) bytes (contents r.kind s) inside whole new))

    -- nothing else changes: either file keeps its size, the other file its bytes, and this one those outside the register
    pub write_sizes : (kind : Kind) → length (contents kind (write k r bytes s)) ≡ length (contents kind s)
    write_sizes kind =
        contents_sizes r.kind kind written s (length_with_register k r.kind r.number (contents r.kind s) register_in bytes whole)

    pub write_other : (kind : Kind) → (kind ≡ r.kind → ⊥) → contents kind (write k r bytes s) ≡ contents kind s
    write_other kind h = contents_other r.kind kind written s h

    pub write_kept : (x : ℕ) → Outside (register_at k r.kind r.number) (register_bytes k r.kind) x
        → get_or (contents r.kind (write k r bytes s)) x 0 ≡ get_or (contents r.kind s) x 0
    write_kept x h =
        rw (contents_with r.kind written s)
        (get_d_outside (register_at k r.kind r.number) (register_bytes k r.kind) bytes (contents r.kind s) inside whole x h)
