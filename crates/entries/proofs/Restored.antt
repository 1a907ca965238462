-- The entry of a register is as long as every entry's, and puts back what the register held, whatever was written to it since. Of a vector it is
-- the number and the bytes as they stand.
-- Assumes nothing.
use Prim.Native.Nat.{ℕ, ◌-◌, ◌<◌}
use mathlib.Core.Path.{◌≡◌, refl, ◌∙◌, ap, ap₂}
use mathlib.Core.List.{List}
use native.Mathlib.Omega.{arith}
use native.Mathlib.Nat.{min-eq_left}
use lib.ListN.{length, take, replicate, length-take}
use lib.Seq.{take_at, take_all}
use Rattle.machine.specs.Size.{vectors, vector_bytes}
use Rattle.registers.specs.declared.Kind.{Kind}
use Rattle.registers.specs.Register.{Register, vector, IsRegister, register_bytes, vector_of, with_vector}
use Rattle.registers.specs.State.{State, state, Sized, contents, read, write}
use Rattle.registers.proofs.Numbers.{numbered_number, vector_number, vector_numbered}
use Rattle.registers.proofs.Places.{bytes_most}
use Rattle.registers.proofs.Padded.{length_padded, padded_full}
use Rattle.registers.proofs.States.{length_read, write_again, write_read}
use Rattle.entries.specs.Layout.{Entry}
use Rattle.entries.specs.Restored.{entry_of, register_entry, restored}

-- an entry has a whole register of any kind to put back
pub put_back_whole : (k : ℕ) (kind : Kind) (old : List ℕ) → length old ≡ vector_bytes k → length (take (register_bytes k kind) old) ≡ register_bytes k kind
put_back_whole k kind old whole = length-take (register_bytes k kind) old ∙ min-eq_left (omega (arith, whole, bytes_most k kind))

-- made from the file of the register's kind it is the register's entry in the state
pub entry_from_file : (k : ℕ) (r : Register) (s : State) → register_entry k r.kind r.number (contents r.kind s) ≡ entry_of k r s
entry_from_file k r s = refl

module _ (k : ℕ) (r : Register) (s : State) (sized : Sized k s) (is : IsRegister r) where
  size : length (read k r s) ≡ register_bytes k r.kind
  size = length_read k r s sized is

  pub entry_whole : length (entry_of k r s).old ≡ vector_bytes k
  entry_whole = length_padded (vector_bytes k) (read k r s) (omega (arith, size, bytes_most k r.kind))

  -- the register's own bytes are what an entry begins with
  own : take (register_bytes k r.kind) (entry_of k r s).old ≡ read k r s
  own = take_at (read k r s) (replicate (vector_bytes k - length (read k r s)) 0) (register_bytes k r.kind) size

  -- put back over other bytes, it gives the state as it stood
  pub entry_restored : (bytes : List ℕ) → length bytes ≡ register_bytes k r.kind → restored k (entry_of k r s) (write k r bytes s) ≡ s
  entry_restored bytes whole =
      ap (λ (named : Register). write k named (take (register_bytes k named.kind) (entry_of k r s).old) (write k r bytes s)) (numbered_number r is)
      ∙ ap (λ (old : List ℕ). write k r old (write k r bytes s)) own
      ∙ write_again k r s sized is bytes whole (read k r s)
      ∙ write_read k r s

-- a vector's entry
pub vector_entry : (k d : ℕ) (s : State) → Sized k s → d < vectors → entry_of k (vector d) s ≡ record { number = d; old = vector_of k d s.z }
vector_entry k d s sized is =
    ap₂ (λ (n : ℕ) (old : List ℕ). record { number = n; old = old }) (vector_number d)
    (padded_full (vector_bytes k) (vector_of k d s.z) (length_read k (vector d) s sized is))

pub vector_restored : (k : ℕ) (e : Entry) (s : State) → e.number < vectors → length e.old ≡ vector_bytes k
    → restored k e s ≡ state (with_vector k e.number e.old s.z) s.p
vector_restored k e s named whole =
    ap (λ (r : Register). write k r (take (register_bytes k r.kind) e.old) s) (vector_numbered e.number named)
    ∙ ap (λ (old : List ℕ). write k (vector e.number) old s) (take_all (vector_bytes k) e.old (omega (arith, whole)))
