-- Where a register of a kind stands: within its file, at a number that a machine word holds; its bytes are as many as its size says.
-- Assumes nothing.
use Prim.Native.Nat.{ℕ, ◌+◌, ◌≤◌, ◌<◌}
use mathlib.Core.Path.{◌≡◌}
use mathlib.Core.List.{List}
use native.Mathlib.Omega.{arith}
use lib.ListN.{length}
use Rattle.parts.proofs.Parts.{length_part, length_with}
use Rattle.machine.specs.Size.{most_length, vector_bytes, Files}
use Rattle.machine.proofs.Places.{place_within}
use Rattle.machine.proofs.Checks.{legal_most}
use Rattle.registers.specs.declared.Kind.{Kind}
use Rattle.registers.specs.declared.Kind.TheVariants.{Vector, Predicate}
use Rattle.registers.specs.Register.{file_of, register_count, register_bytes, file_bytes, register_at, register_of, with_register, InFile}

-- a register has at most the bytes of a vector, at most 256, and its file at most 8192
pub bytes_most : (k : ℕ) (kind : Kind) → register_bytes k kind ≤ vector_bytes k
bytes_most k Vector = omega arith
bytes_most k Predicate = omega arith

pub bytes_few : (k : ℕ) (kind : Kind) → k ≤ most_length → register_bytes k kind ≤ 256
bytes_few k kind h = omega (arith, bytes_most k kind)

pub file_few : (k : ℕ) (kind : Kind) → k ≤ most_length → file_bytes k kind ≤ 8192
file_few k Vector h = omega arith
file_few k Predicate h = omega arith

-- a register ends within the bytes of its file
pub register_within : (k : ℕ) (kind : Kind) (r : ℕ) → r < register_count kind → register_at k kind r + register_bytes k kind ≤ file_bytes k kind
register_within k kind r h = place_within r (register_count kind) (register_bytes k kind) h

-- both files of a legal length have their registers
pub in_files : (k : ℕ) (z p : List ℕ) (kind : Kind) (r : ℕ) → Files k z p → r < register_count kind → InFile k kind r (file_of kind z p)
in_files k z p Vector r files h = record { legal = legal_most k files.legal; register = h; sized = files.vector_size }
in_files k z p Predicate r files h = record { legal = legal_most k files.legal; register = h; sized = files.predicate_size }

module _ (k : ℕ) (kind : Kind) (r : ℕ) (file : List ℕ) (at : InFile k kind r file) where
  pub register_inside : register_at k kind r + register_bytes k kind ≤ length file
  register_inside = rw at.sized (register_within k kind r at.register)

  pub length_register : length (register_of k kind r file) ≡ register_bytes k kind
  length_register = length_part (register_at k kind r) (register_bytes k kind) file register_inside

  pub length_with_register : (bytes : List ℕ) → length bytes ≡ register_bytes k kind → length (with_register k kind r bytes file) ≡ length file
  length_with_register bytes sized = length_with (register_at k kind r) (register_bytes k kind) bytes file register_inside sized
