-- The tests of a journal: its size, its form, and the version that a fresh one is to have.
use Rattle.std.specs.Prelude.{ℕ, not, List, [], ◌∷◌, ◌++◌, length}
use Rattle.machine.specs.Refusal.{Test, test, ROOM, JOURNAL}
use Rattle.entries.specs.Layout.{is_version, version_of, is_room, is_journal}

-- the test of a journal's size: it is outside the limits of a version
abbrev pub room_tests : ℕ → ℕ → List Test
room_tests version n = test ROOM (not (is_room version n)) ∷ []

-- the tests of a lent journal: its size, by the version that it names, and its form
abbrev pub journal_tests : ℕ → List ℕ → List Test
journal_tests k journal = room_tests (version_of journal) (length journal) ++ test JOURNAL (not (is_journal k journal)) ∷ []

-- the test of a version: it is not defined
abbrev pub version_tests : ℕ → List Test
version_tests version = test JOURNAL (not (is_version version)) ∷ []
