-- What fresh and the calls for a position and for an entry answer and leave, for every input; and the tests of a step before its word is read, and of back.
use Rattle.std.specs.Prelude.{Result, Ok, Err, ℕ, ◌+◌, ◌≡◌, List, [], ◌∷◌, ◌++◌, eqb, leb, length}
use Rattle.machine.specs.Refusal.{Test, test, DONE, EMPTY, refused, length_tests, files_tests, program_tests, range_test, unless_refused, answer}
use Rattle.machine.specs.Refusal.{Answer, code}
use Rattle.machine.specs.declared.refusal.Refusal.{Refusal}
use Rattle.programs.specs.Word.{end_tests}
use Rattle.entries.specs.Tests.{room_tests, version_tests, journal_tests}
use Rattle.registers.specs.Register.{register_bytes, numbered}
use Rattle.entries.specs.Layout.{held_of, position_of, entry_at, entry_in, fresh_journal}
use Rattle.journal.specs.declared.FoundEntry.{FoundEntry}
use Rattle.journal.specs.Left.{Buffers, Left, left_with, leaving}

-- the tests of fresh, which is told a version and goes by it alone: of what it is lent, only the size is asked
abbrev pub fresh_tests : ℕ → ℕ → List ℕ → List Test
fresh_tests k version journal = length_tests k ++ room_tests version (length journal) ++ version_tests version

-- the tests of a position: no file is lent
abbrev pub position_tests : ℕ → List ℕ → List Test
position_tests k journal = length_tests k ++ journal_tests k journal

-- the tests of the files that a step and a step back are lent
abbrev pub buffer_tests : ℕ → Buffers → List Test
buffer_tests k b = files_tests k (length b.files.z) (length b.files.p)

-- the tests of a step before its word is read
abbrev pub start_tests : ℕ → List ℕ → Buffers → List Test
start_tests k program b =
    buffer_tests k b ++ program_tests (length program) ++ journal_tests k b.journal ++ end_tests (length program) (position_of b.journal)

-- the test of a step back past its buffers': no entry is held
abbrev pub empty_tests : List ℕ → List Test
empty_tests journal = test EMPTY (eqb (held_of journal) 0) ∷ []

-- the tests of back
abbrev pub back_tests : ℕ → Buffers → List Test
back_tests k b = buffer_tests k b ++ journal_tests k b.journal ++ empty_tests b.journal

-- the refusals of a step before its word is read, of back, and of a position
unfoldable pub start_refused : ℕ → List ℕ → Buffers → ℕ
start_refused k program b = refused (start_tests k program b)

unfoldable pub back_refused : ℕ → Buffers → ℕ
back_refused k b = refused (back_tests k b)

unfoldable pub position_refused : ℕ → List ℕ → ℕ
position_refused k journal = refused (position_tests k journal)

-- a journal's position, or its refusal with 0
abbrev pub position_answer : ℕ → List ℕ → Answer
position_answer k journal = answer (position_refused k journal) (position_of journal)

-- the tests of a held entry, the oldest being 0: those of a position, and that there is such an entry
abbrev pub entry_tests : ℕ → List ℕ → ℕ → List Test
entry_tests k journal i = position_tests k journal ++ range_test (leb (held_of journal) i) ∷ []

unfoldable pub entry_refused : ℕ → List ℕ → ℕ → ℕ
entry_refused k journal i = refused (entry_tests k journal i)

-- what is told of a held entry: the call's number, its register's number, where that register's old bytes start in the journal, and how many they are
pub record Held : Type 0 where
  pub number : ℕ
  pub target : ℕ
  pub start : ℕ
  pub bytes : ℕ

-- a held entry: its register's number, where that register's old bytes start in the journal, and how many they are
abbrev pub entry_told : ℕ → List ℕ → ℕ → Held
entry_told k journal i =
    let n = (entry_in k journal i).number in
    record { number = DONE; target = n; start = entry_at k journal i + 1; bytes = register_bytes k (numbered n).kind }

-- a refusal, and nothing told
abbrev pub no_entry : ℕ → Held
no_entry n = record { number = n; target = 0; start = 0; bytes = 0 }

-- what is told by an outcome
abbrev pub held_in : Result FoundEntry Refusal → Held
held_in (Ok f) = record { number = DONE; target = f.target; start = f.start; bytes = f.bytes }
held_in (Err r) = no_entry (code r)

-- the entry, or its refusal with nothing
abbrev pub entry_answer : ℕ → List ℕ → ℕ → Held
entry_answer k journal i = let n = entry_refused k journal i in unless_refused n (entry_told k journal i) (no_entry n)

-- what fresh leaves
unfoldable pub freshened : ℕ → ℕ → List ℕ → Left (List ℕ)
freshened k version journal = leaving (fresh_tests k version journal) (fresh_journal version k (length journal)) journal

-- the contract of fresh: what it answered, and the journal as that is afterwards, is what it leaves
abbrev pub Freshened : ℕ → ℕ → List ℕ → ℕ → List ℕ → Type 0
Freshened k version journal r after = left_with r after ≡ freshened k version journal
