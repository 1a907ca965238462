-- The state that a program works on: both files. A register of a state is read and written.
use Rattle.std.specs.Prelude.{ℕ, List}
use Rattle.machine.specs.Size.{Files}
use Rattle.registers.specs.declared.Kind.{Kind}
use Rattle.registers.specs.declared.Kind.TheVariants.{Vector, Predicate}
use Rattle.registers.specs.Register.{Register, file_of, register_of, with_register}

-- the vector file and the predicate file
pub record State : Type 0 where
  pub z : List ℕ
  pub p : List ℕ

abbrev pub state : List ℕ → List ℕ → State
state z p = record { z = z; p = p }

-- files that have the sizes of a legal length
abbrev pub Sized : ℕ → State → Type 0
Sized k s = Files k s.z s.p

-- the file of a kind, and the state with another one
abbrev pub contents : Kind → State → List ℕ
contents kind s = file_of kind s.z s.p

abbrev pub with_contents : Kind → List ℕ → State → State
with_contents Vector file s = state file s.p
with_contents Predicate file s = state s.z file

-- the bytes of a register
abbrev pub read : ℕ → Register → State → List ℕ
read k r s = register_of k r.kind r.number (contents r.kind s)

-- the state with other bytes in a register
abbrev pub write : ℕ → Register → List ℕ → State → State
write k r bytes s = with_contents r.kind (with_register k r.kind r.number bytes (contents r.kind s)) s
