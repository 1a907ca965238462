-- A register's bytes for drawing: the part of its file that holds it, and where that part lies.
use Rattle.std.specs.Prelude.{ℕ, ◌+◌, ◌<◌, ◌≡◌, List, [], ◌∷◌, ◌++◌, leb, length}
use Rattle.std.specs.Borrow.{Bor}
use Rattle.machine.specs.Size.{Files}
use Rattle.machine.specs.Refusal.{Test, range_test, refused, files_tests, unless_refused}
use Rattle.registers.specs.declared.Kind.{Kind}
use Rattle.registers.specs.Register.{file_of, register_count, register_at, register_of}

-- the tests of a register that is to be drawn
abbrev pub register_tests : ℕ → List ℕ → List ℕ → Kind → ℕ → List Test
register_tests k z p kind r = files_tests k (length z) (length p) ++ range_test (leb (register_count kind) r) ∷ []

-- the number that is told of a register that is to be drawn: LENGTH, FILE, RANGE or DONE
abbrev pub register_refused : ℕ → List ℕ → List ℕ → Kind → ℕ → ℕ
register_refused k z p kind r = refused (register_tests k z p kind r)

-- a register that can be drawn: a legal length, both files of its sizes, and a number below the count
pub record Drawable (k : ℕ) (z p : List ℕ) (kind : Kind) (r : ℕ) : Type 0 where
  pub lent : Files k z p
  pub below : r < register_count kind

-- the bytes that are drawn: those of the register, or with a refusal none
abbrev pub register_part : ℕ → List ℕ → List ℕ → Kind → ℕ → List ℕ
register_part k z p kind r = unless_refused (register_refused k z p kind r) (register_of k kind r (file_of kind z p)) []

-- a place in memory: a block, and a byte of it
abbrev pub Place : Type 0
Place = ℕ × ℕ

-- the place that is n bytes further on in the same block
abbrev pub bytes_on : ℕ → Place → Place
bytes_on n a = (a.0, n + a.1)

-- where the drawn bytes lie: at the register in its file, or with a refusal where the vector file starts
abbrev pub register_place : ℕ → Bor (List ℕ) → Bor (List ℕ) → Kind → ℕ → Place
register_place k z p kind r =
    unless_refused (register_refused k z.now p.now kind r) (bytes_on (register_at k kind r) (file_of kind z p).ref_ptr) z.ref_ptr

-- a part with these bytes at this place, which is what the call for a register promises
abbrev pub IsPart : ℕ → Bor (List ℕ) → Bor (List ℕ) → Kind → ℕ → Bor (List ℕ) → Type 0
IsPart k z p kind r a =
    (a.now ≡ register_part k z.now p.now kind r) × (a.ref_ptr ≡ register_place k z p kind r)
