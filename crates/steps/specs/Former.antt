-- What a step and a step back left before there was a second version, on a journal of the former one: vectors alone are written, named and put back.
use Rattle.std.specs.Prelude.{ℕ, ◌+◌, ◌-◌, Bool, not, List, [], ◌∷◌, ◌++◌, leb, length, take}
use Rattle.parts.specs.Part.{both, same_bytes}
use Rattle.machine.specs.Size.{vectors, most_words, vector_bytes}
use Rattle.machine.specs.Refusal.{Test, test, ROOM, JOURNAL, length_tests, program_tests, refused, answer}
use Rattle.machine.specs.Refusal.{Answer}
use Rattle.programs.specs.Word.{end_tests}
use Rattle.registers.specs.Register.{vector_of, with_vector, padded}
use Rattle.registers.specs.State.{state}
use Rattle.words.specs.Decode.{word_tests}
use Rattle.words.specs.declared.Fields.{Fields}
use Rattle.cores.specs.Core.{decoded_on}
use Rattle.meaning.specs.Execute.{written_for}
use Rattle.entries.specs.Layout.{count_at, count_bytes, heading, former_version, most_journal, capacity_for, held_of, position_of, are_named, entries_of, last_entry, pushed, popped}
use Rattle.journal.specs.Left.{Core, Buffers, buffers_of, Left, leaving}
use Rattle.journal.specs.Calls.{buffer_tests, empty_tests}
use Rattle.steps.specs.Calls.{word_now, fields_now, full_tests}

-- a size of at least 8 bytes, and a journal of that one version: mark, version and k, a count that fits, and numbers of vectors
abbrev pub former_room : ℕ → Bool
former_room n = both (leb (count_at + count_bytes) n) (leb n most_journal)

abbrev pub former_form : ℕ → List ℕ → Bool
former_form k journal =
    both (same_bytes (take count_at journal) (heading former_version k))
    (both (leb (held_of journal) most_words)
    (both (leb (held_of journal) (capacity_for (count_at + count_bytes) k (length journal))) (are_named (vectors - 1) (entries_of k journal))))

abbrev pub former_journal_tests : ℕ → List ℕ → List Test
former_journal_tests k journal = test ROOM (not (former_room (length journal))) ∷ test JOURNAL (not (former_form k journal)) ∷ []

-- a step: vector d has its new bytes, and the entry its number and its old bytes; past its word only the room for the entry refuses
abbrev pub former_carried : ℕ → Fields → Buffers → Buffers
former_carried k f b =
    let s = b.files in
    buffers_of (state (with_vector k f.d (padded (vector_bytes k) (written_for f k s)) s.z) s.p)
    (pushed k (record { number = f.d; old = vector_of k f.d s.z }) b.journal)

abbrev pub former_step : Core → List ℕ → Buffers → Left Buffers
former_step c program b =
    leaving
    ((buffer_tests c.k b ++ program_tests (length program) ++ former_journal_tests c.k b.journal ++ end_tests (length program) (position_of b.journal))
    ++ word_tests (decoded_on c.facts (word_now program b.journal))
    ++ full_tests c.k b.journal) (former_carried c.k (fields_now program b.journal) b) b

-- a step back: the vector that the last entry names has its old bytes
abbrev pub former_taken : ℕ → Buffers → Buffers
former_taken k b =
    let last = last_entry k b.journal in
    buffers_of (state (with_vector k last.number last.old b.files.z) b.files.p) (popped k b.journal)

abbrev pub former_back : ℕ → Buffers → Left Buffers
former_back k b = leaving (buffer_tests k b ++ former_journal_tests k b.journal ++ empty_tests b.journal) (former_taken k b) b

-- a position
abbrev pub former_position : ℕ → List ℕ → Answer
former_position k journal = answer (refused (length_tests k ++ former_journal_tests k journal)) (position_of journal)
