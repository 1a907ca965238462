-- With a journal of the former version a step, a step back and a position are what they were before there was a second one: for every word of the first
-- twenty-three rows, which write vectors, each answer and every byte. The journal's tests are the same since its version's layout is the same.
-- Assumes nothing.
use Prim.Native.Nat.{ℕ, zero, suc, ◌≤◌, ◌<◌}
use mathlib.Core.Path.{◌≡◌, refl, ◌∙◌, ap, ap₂, subst}
use mathlib.Core.Bool.{Bool, true, false, not}
use mathlib.Core.List.{List, [], ◌∷◌, ◌++◌}
use lib.Dec.{leb}
use lib.ListN.{length, take}
use Rattle.parts.specs.Part.{both, same_bytes}
use Rattle.machine.specs.Size.{most_words}
use Rattle.machine.specs.Refusal.{Test, test, ROOM, JOURNAL, length_tests, program_tests, refused, first, unless_refused, answer}
use Rattle.programs.specs.Word.{end_tests}
use Rattle.registers.specs.declared.Kind.{Kind}
use Rattle.registers.specs.declared.Kind.TheVariants.{Vector, Predicate}
use Rattle.registers.specs.Register.{Register, entry_number, vector_of, with_vector}
use Rattle.registers.specs.State.{State, state}
use Rattle.rows.specs.Table.{row_at, family_of}
use Rattle.rows.proofs.Every.{every, at_each}
use Rattle.words.specs.Decode.{fields_of, word_tests}
use Rattle.words.specs.Encode.{InRange}
use Rattle.words.specs.declared.Fields.{Fields}
use Rattle.words.specs.Decode.{Decoded}
use Rattle.words.specs.Decode.{Unknown, Undefined, Word}
use Rattle.words.proofs.Encoding.{decoded_in_range}
use Rattle.cores.specs.Core.{decoded_on}
use Rattle.cores.proofs.Answers.{core_decodes}
use Rattle.words.proofs.Decoding.{destination_in}
use Rattle.meaning.specs.Needs.{Executable}
use Rattle.meaning.specs.Execute.{kind_written, target_of, executed}
use Rattle.meaning.proofs.Effects.{target_of_kind, executed_of_kind}
use Rattle.meaning.proofs.Sizes.{vector_destination}
use Rattle.entries.specs.declared.Layout.{Layout}
use Rattle.entries.specs.Layout.{count_at, heading, former_version, is_version, layout_of, version_of, most_journal, capacity_for, held_of, position_of, may_name, are_named}
use Rattle.entries.specs.Layout.{Entry, entries_of, last_entry, pushed, popped}
use Rattle.entries.specs.Restored.{entry_of}
use Rattle.entries.specs.Tests.{journal_tests}
use Rattle.entries.proofs.Versions.{former_line, former_vector, vector_may}
use Rattle.entries.proofs.Restored.{vector_entry, vector_restored}
use Rattle.entries.proofs.Written.{last_named, length_last}
use Rattle.journal.specs.Left.{Core, Buffers, buffers_of, left_with}
use Rattle.journal.specs.Calls.{buffer_tests, start_tests, empty_tests, back_refused, position_refused, position_answer}
use Rattle.journal.proofs.Accepted.{returning}
use Rattle.steps.specs.Calls.{word_now, fields_now, full_tests, past_tests, step_tests, carried_out, taken_back, stepped, backed}
use Rattle.steps.specs.Former.{former_journal_tests, former_carried, former_step, former_taken, former_back, former_position}
use Rattle.steps.proofs.Accepted.{step_number, step_accepted}

-- the tests of a journal, by the layout and the number of its version
abbrev tests_of : Layout → ℕ → ℕ → List ℕ → List Test
tests_of layout version k journal =
    test ROOM (not (both (leb layout.header (length journal)) (leb (length journal) most_journal)))
    ∷ test JOURNAL
    (not
    (both (is_version version)
    (both (same_bytes (take count_at journal) (heading version k))
    (both (leb (held_of journal) most_words)
    (both (leb (held_of journal) (capacity_for layout.header k (length journal))) (are_named layout.greatest (entries_of k journal)))))))
    ∷ []

-- the journal's tests
pub former_journal : (k : ℕ) (journal : List ℕ) → version_of journal ≡ former_version → journal_tests k journal ≡ former_journal_tests k journal
former_journal k journal is =
    ap (λ (version : ℕ). tests_of (layout_of version) version k journal) is ∙ ap (λ (layout : Layout). tests_of layout former_version k journal) former_line

-- the first twenty-three rows write vectors
is_vector : Kind → Bool
is_vector Vector = true
is_vector Predicate = false

first_vectors : every 23 (λ i. is_vector (kind_written (family_of i))) ≡ true
unfolding is_vector row_at
first_vectors = refl

pub first_write_vectors : (row : ℕ) → row < 23 → kind_written (family_of row) ≡ Vector
unfolding is_vector
first_write_vectors row h = go (kind_written (family_of row)) (at_each 23 (λ i. is_vector (kind_written (family_of i))) first_vectors row h)
  where
    go : (kind : Kind) → is_vector kind ≡ true → kind ≡ Vector
    go Vector e = refl
    go Predicate e = cc

-- what such a word does is what it did
module _ (k : ℕ) (f : Fields) (b : Buffers) (x : Executable f k b.files) (vectors : kind_written (family_of f.row) ≡ Vector) where
  former_files : executed f k b.files ≡ (former_carried k f b).files
  former_files =
      executed_of_kind f k b.files Vector vectors
      ∙ ap (λ (bytes : List ℕ). state (with_vector k f.d bytes b.files.z) b.files.p) (vector_destination f k b.files vectors)

  former_entry : entry_of k (target_of f) b.files ≡ record { number = f.d; old = vector_of k f.d b.files.z }
  former_entry = ap (λ (r : Register). entry_of k r b.files) (target_of_kind f Vector vectors) ∙ vector_entry k f.d b.files x.lent (destination_in x.fields)

  former_carried_lem : carried_out k f b ≡ former_carried k f b
  former_carried_lem = ap₂ buffers_of former_files (ap (λ (e : Entry). pushed k e b.journal) former_entry)

-- an entry may name what such a word writes
vector_may_be_named : (f : Fields) (journal : List ℕ) → InRange f → kind_written (family_of f.row) ≡ Vector → may_name (entry_number (target_of f)) journal ≡ true
vector_may_be_named f journal fields vectors =
    ap (λ (r : Register). may_name (entry_number r) journal) (target_of_kind f Vector vectors) ∙ vector_may f.d journal (destination_in fields)

-- two calls with the same refusal that make the same leave the same
same_left : {X : Type 0} (made other stood : X) (n m : ℕ) → n ≡ m → (n ≡ 0 → made ≡ other)
    → left_with n (unless_refused n made stood) ≡ left_with m (unless_refused m other stood)
same_left made other stood zero m e same = ap₂ (λ (i : ℕ) (x : _). left_with i (unless_refused i x stood)) e (same refl)
same_left made other stood (suc n) m e same = ap (λ (i : ℕ). left_with i (unless_refused i other stood)) e

module _ (c : Core) (program : List ℕ) (b : Buffers) (former : version_of b.journal ≡ former_version)
    (vectors : kind_written (family_of (fields_now program b.journal).row) ≡ Vector) where
  -- the tests past a word: the register's name refuses nothing
  late : (d : Decoded) → decoded_on c.facts (word_now program b.journal) ≡ d
      → refused (word_tests d ++ past_tests c.k (fields_of d) b.journal) ≡ refused (word_tests d ++ full_tests c.k b.journal)
  late Unknown is = refl
  late Undefined is = refl
  late (Word f) is =
      let decodes = core_decodes c.facts (word_now program b.journal) f is in
      rw (vector_may_be_named f b.journal (decoded_in_range _ f decodes) (rw (ap fields_of decodes) at vectors)) refl

  -- the number of a step
  former_number : refused (step_tests c program b) ≡ (former_step c program b).number
  former_number =
      ap (λ (n : ℕ). first (start_tests c.k program b) n) (late _ refl)
      ∙ ap (λ (tests : List Test). refused
      ((buffer_tests c.k b ++ program_tests (length program) ++ tests ++ end_tests (length program) (position_of b.journal))
      ++ word_tests (decoded_on c.facts (word_now program b.journal))
      ++ full_tests c.k b.journal)) (former_journal c.k b.journal former)

  -- a step, in every answer and every byte
  pub former_step_lem : stepped c program b ≡ former_step c program b
  unfolding stepped
  former_step_lem =
      same_left (carried_out c.k (fields_now program b.journal) b) (former_carried c.k (fields_now program b.journal) b) b _ _ former_number
      (λ done. former_carried_lem c.k (fields_now program b.journal) b (step_accepted c program b (step_number c program b ∙ done)).executes vectors)

-- so for every word of the twenty-three rows
pub former_step_of_row : (c : Core) (program : List ℕ) (b : Buffers) → version_of b.journal ≡ former_version → (fields_now program b.journal).row < 23
    → stepped c program b ≡ former_step c program b
former_step_of_row c program b former row = former_step_lem c program b former (first_write_vectors (fields_now program b.journal).row row)

-- what a step back takes off is what it took off
former_taken_lem : (k : ℕ) (b : Buffers) → version_of b.journal ≡ former_version → back_refused k b ≡ 0 → taken_back k b ≡ former_taken k b
former_taken_lem k b former done =
    let r = returning k b done in
    let last = last_entry k b.journal in
    let numbered = subst (λ (version : ℕ). last.number ≤ (layout_of version).greatest) former (last_named k b.journal r.formed r.some) in
    ap (λ (s : State). buffers_of s (popped k b.journal))
    (vector_restored k last b.files (former_vector last.number numbered) (length_last k b.journal r.formed r.some))

-- a step back, in every answer and every byte
pub former_back_lem : (k : ℕ) (b : Buffers) → version_of b.journal ≡ former_version → backed k b ≡ former_back k b
unfolding backed back_refused
former_back_lem k b former =
    same_left (taken_back k b) (former_taken k b) b _ _
    (ap (λ (tests : List Test). refused (buffer_tests k b ++ tests ++ empty_tests b.journal)) (former_journal k b.journal former))
    (λ done. former_taken_lem k b former done)

-- a position
pub former_position_lem : (k : ℕ) (journal : List ℕ) → version_of journal ≡ former_version → position_answer k journal ≡ former_position k journal
unfolding position_refused
former_position_lem k journal former = ap (λ (tests : List Test). answer (refused (length_tests k ++ tests)) (position_of journal)) (former_journal k journal former)
