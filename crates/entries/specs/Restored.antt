-- The entry of a register: its number, and its bytes as they stand; and the state with an entry's bytes put back.
use Rattle.std.specs.Prelude.{ℕ, List, take}
use Rattle.machine.specs.Size.{vector_bytes}
use Rattle.registers.specs.declared.Kind.{Kind}
use Rattle.registers.specs.Register.{Register, register_from, register_bytes, register_of, entry_number, numbered, padded}
use Rattle.registers.specs.State.{State, read, write}
use Rattle.entries.specs.Layout.{Entry}

-- an entry of a number and a register's bytes, with zeros after those of a predicate
abbrev pub padded_entry : ℕ → ℕ → List ℕ → Entry
padded_entry k number bytes = record { number = number; old = padded (vector_bytes k) bytes }

-- the entry of a register: its number, then its bytes as they stand
abbrev pub entry_of : ℕ → Register → State → Entry
entry_of k r s = padded_entry k (entry_number r) (read k r s)

-- the same of register r of a kind, from the file of that kind alone
abbrev pub register_entry : ℕ → Kind → ℕ → List ℕ → Entry
register_entry k kind r file = padded_entry k (entry_number (register_from kind r)) (register_of k kind r file)

-- the state with an entry's bytes in the register that it names
abbrev pub restored : ℕ → Entry → State → State
restored k e s = write k (numbered e.number) (take (register_bytes k (numbered e.number).kind) e.old) s
