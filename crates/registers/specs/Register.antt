-- Registers, and registers in files: each kind of register has a file, a count and a size, and register r is a part of its file.
use Rattle.std.specs.Prelude.{ℕ, ◌+◌, ◌*◌, ◌-◌, ◌≤◌, ◌<◌, ◌≡◌, cond, List, ◌++◌, ltb, length, replicate}
use Rattle.parts.specs.Part.{part, with_part}
use Rattle.machine.specs.Size.{most_length, vectors, predicates, vector_bytes, predicate_bytes}
use Rattle.registers.specs.declared.Kind.{Kind}
use Rattle.registers.specs.declared.Kind.TheVariants.{Vector, Predicate}

-- of what the vector file and the predicate file have, that of the file which holds the registers of a kind
abbrev pub file_of : {X : Type 0} → Kind → X → X → X
file_of Vector z p = z
file_of Predicate z p = p

-- how many registers of a kind there are
abbrev pub register_count : Kind → ℕ
register_count Vector = vectors
register_count Predicate = predicates

-- a register: its kind and its number
pub record Register : Type 0 where
  pub kind : Kind
  pub number : ℕ

-- register r of a kind; Z[r] and P[r]
abbrev pub register_from : Kind → ℕ → Register
register_from kind r = record { kind = kind; number = r }

abbrev pub vector : ℕ → Register
vector r = register_from Vector r

abbrev pub predicate : ℕ → Register
predicate r = register_from Predicate r

-- a register that there is
abbrev pub IsRegister : Register → Type 0
IsRegister r = r.number < register_count r.kind

-- the number that an entry has for register r of a kind: those of the predicates follow those of the vectors
abbrev pub number_among_all : Kind → ℕ → ℕ
number_among_all Vector r = r
number_among_all Predicate r = vectors + r

-- a register's number in an entry: 0 to 31 a vector, 32 to 47 a predicate
unfoldable pub entry_number : Register → ℕ
entry_number r = number_among_all r.kind r.number

-- the register that an entry's number names
unfoldable pub numbered : ℕ → Register
numbered n = cond (ltb n vectors) (vector n) (predicate (n - vectors))

-- the bytes of a register of a kind
abbrev pub register_bytes : ℕ → Kind → ℕ
register_bytes k Vector = vector_bytes k
register_bytes k Predicate = predicate_bytes k

-- the bytes of the file of a kind
abbrev pub file_bytes : ℕ → Kind → ℕ
file_bytes k kind = register_count kind * register_bytes k kind

-- where register r of a kind starts in its file
abbrev pub register_at : ℕ → Kind → ℕ → ℕ
register_at k kind r = r * register_bytes k kind

-- the bytes of register r of a kind
abbrev pub register_of : ℕ → Kind → ℕ → List ℕ → List ℕ
register_of k kind r file = part (register_at k kind r) (register_bytes k kind) file

-- bytes at the front of a register of n bytes, and zeros above them
abbrev pub padded : ℕ → List ℕ → List ℕ
padded n bytes = bytes ++ replicate (n - length bytes) 0

-- the file of a kind with other bytes in register r
abbrev pub with_register : ℕ → Kind → ℕ → List ℕ → List ℕ → List ℕ
with_register k kind r bytes file = with_part (register_at k kind r) (register_bytes k kind) bytes file

-- the vector file with other bytes in register r
abbrev pub with_vector : ℕ → ℕ → List ℕ → List ℕ → List ℕ
with_vector k r bytes z = with_register k Vector r bytes z

-- the bytes of Z[r] and of P[r]
abbrev pub vector_of : ℕ → ℕ → List ℕ → List ℕ
vector_of k r z = register_of k Vector r z

abbrev pub predicate_of : ℕ → ℕ → List ℕ → List ℕ
predicate_of k r p = register_of k Predicate r p

-- register r of a kind at a length, and a file of that kind
pub record InFile (k : ℕ) (kind : Kind) (r : ℕ) (file : List ℕ) : Type 0 where
  pub legal : k ≤ most_length
  pub register : r < register_count kind
  pub sized : length file ≡ file_bytes k kind
