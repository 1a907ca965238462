-- A session whose words the core accepts, and whose entries its journal has room for: each step is accepted, whichever kind of register it writes, since
-- the journal of a walk names both; so what is printed are the lines of the words executed one after the other.
-- Assumes nothing.
use mathlib.Core.Path.{◌≡◌, refl, sym, ◌∙◌, ap, ap₂}
use mathlib.Core.Bool.{true, false}
use mathlib.Core.List.{List, [], ◌++◌}
use Prim.Native.Nat.{ℕ, zero, suc, ◌+◌, ◌-◌, ◌≤◌}
use native.Mathlib.Omega.{arith}
use lib.ListN.{length}
use borrow.Author.Tests.{le-leb, lt-leb}
use Rattle.machine.specs.Size.{most_words}
use Rattle.machine.specs.Refusal.{DONE}
use Rattle.registers.specs.Register.{entry_number}
use Rattle.registers.specs.State.{State, state}
use Rattle.words.specs.Decode.{decoded, number_of, fields_of}
use Rattle.words.specs.declared.Fields.{Fields}
use Rattle.words.specs.Decode.{Decoded}
use Rattle.words.specs.Decode.{Unknown, Undefined, Word}
use Rattle.cores.specs.Core.{decoded_on}
use Rattle.cores.proofs.Answers.{core_decodes}
use Rattle.programs.specs.Word.{word_at, words_of}
use Rattle.meaning.specs.Execute.{target_of, executed}
use Rattle.meaning.proofs.Effects.{target_register}
use Rattle.entries.specs.Layout.{layout_of, most_journal, version_of, held_of, capacity_for, capacity_of, may_name, is_full}
use Rattle.entries.proofs.Versions.{header_most, register_named}
use Rattle.entries.proofs.Written.{room_full, version_pushed, capacity_pushed, held_pushed}
use Rattle.entries.proofs.Closed.{version_closed, length_closed, held_closed}
use Rattle.journal.specs.Left.{Core, Buffers}
use Rattle.steps.specs.Calls.{word_now, stepped}
use Rattle.steps.proofs.Accepted.{executable, step_accepted}
use Rattle.travel.proofs.Undone.{step_room}
use Rattle.session.specs.Body.{Session}
use Rattle.session.specs.Body.{vector_part, predicate_part, program_part}
use Rattle.session.specs.Layout.{session_of}
use Rattle.session.proofs.Reading.{session_parts}
use Rattle.lines.specs.Line.{step_line}
use Rattle.walks.specs.Output.{printed, lines_from, walk_version, walk_journal, session_buffers, session_core, output_of}
use Rattle.walks.specs.Paper.{AllAccepted, state_after, executed_lines}
use Rattle.walks.proofs.Printed.{done_printed}
use Rattle.walks.proofs.Outputs.{output_session}
use Rattle.walks.proofs.Paper.{Standing, step_is, files_after, standing_next, lines_enough, session_standing}

-- a word that is accepted is its fields
word_of : (d : Decoded) → number_of d ≡ DONE → d ≡ Word (fields_of d)
word_of Unknown e = absurd (omega (arith, e))
word_of Undefined e = absurd (omega (arith, e))
word_of (Word f) e = refl

-- a walk that stands at a position, with a journal of a walk that has room for n entries more
pub record Going (n : ℕ) (c : Core) (program : List ℕ) (position : ℕ) (b : Buffers) : Type 0 where
  pub standing : Standing c program position b
  pub version : version_of b.journal ≡ walk_version
  pub room : held_of b.journal + n ≤ capacity_of c.k b.journal
  pub words : position + n ≡ words_of (length program)
  pub accepted : AllAccepted n c.facts program position

module _ (n : ℕ) (c : Core) (program : List ℕ) (position : ℕ) (b : Buffers) (going : Going (suc n) c program position b) where
  -- the word, what it decodes to and the register that it writes
  abbrev word : Decoded
  word = decoded_on c.facts (word_now program b.journal)

  abbrev f : Fields
  f = fields_of word

  here : word_now program b.journal ≡ word_at program position
  here = ap (word_at program) going.standing.place

  accepted : word ≡ Word f
  accepted = word_of word (ap (λ (w : ℕ). number_of (decoded_on c.facts w)) here ∙ going.accepted.0)

  -- a walk's journal may name it, and is not full
  named : may_name (entry_number (target_of f)) b.journal ≡ true
  named =
      let x = executable c.k _ f b.files going.standing.files (core_decodes c.facts (word_now program b.journal) f accepted) in
      le-leb _ _ (register_named (version_of b.journal) (target_of f) (target_register f c.k b.files x) (λ kind e. omega (arith, going.version, e)))

  roomy : is_full c.k b.journal ≡ false
  roomy = room_full c.k b.journal (omega (arith, going.room))

  -- so the step is accepted, and its word executed
  step_done : (stepped c program b).number ≡ 0
  step_done =
      step_is c program position b going.standing
      ∙ rw (lt-leb (words_of (length program)) position (omega (arith, going.words)), accepted, named, roomy)

  executes : (stepped c program b).after.files ≡ state_after c.k program position b.files
  executes =
      ap (λ (x : Buffers). x.files) (step_accepted c program b step_done).left
      ∙ ap (λ (w : ℕ). executed (fields_of (decoded w)) c.k b.files) here

  -- its line is printed
  shown : printed c (stepped c program b).after.files program position DONE ≡ step_line c.k (stepped c program b).after.files program position DONE
  shown =
      let s = going.standing in
      done_printed c (stepped c program b).after.files program position (files_after c program position b s) s.whole (omega (arith, going.words)) going.accepted.0

  -- and the walk goes on
  going_on : Going n c program (position + 1) (stepped c program b).after
  going_on =
      let a = step_accepted c program b step_done in
      let fits = step_room c program b a in
      record {
        standing = standing_next c program position b going.standing step_done;
        version = rw a.left (version_pushed c.k _ b.journal fits ∙ going.version);
        room = rw (a.left, capacity_pushed c.k _ b.journal fits, held_pushed c.k _ b.journal fits) (omega (arith, going.room));
        words = omega (arith, going.words);
        accepted = going.accepted.1;
      }

-- as many steps as there are words print their lines
lines_executed : (n : ℕ) (c : Core) (program : List ℕ) (position : ℕ) (b : Buffers) → Going n c program position b
    → lines_from n c program position b ≡ executed_lines n c.k program position b.files
unfolding lines_from executed_lines
lines_executed zero c program position b going = refl
lines_executed (suc n) c program position b going =
    let after = (stepped c program b).after in
    rw (step_done n c program position b going)
    (ap₂ (λ (x y : List ℕ). x ++ y) (shown n c program position b going)
    (lines_executed n c program (position + 1) after (going_on n c program position b going))
    ∙ ap (λ (s : State). step_line c.k s program position DONE ++ executed_lines n c.k program (position + 1) s) (executes n c program position b going))

-- how many entries the journal of a walk can hold
abbrev pub walk_capacity : ℕ → ℕ
walk_capacity k = capacity_for (layout_of walk_version).header k most_journal

pub walk_version_lem : (k : ℕ) → version_of (walk_journal k) ≡ walk_version
unfolding walk_journal
walk_version_lem k = version_closed walk_version k most_journal [] tt refl

walk_capacity_lem : (k : ℕ) → capacity_of k (walk_journal k) ≡ walk_capacity k
unfolding walk_journal
walk_capacity_lem k =
    ap₂ (λ (header most : ℕ). capacity_for header k most) (ap (λ (version : ℕ). (layout_of version).header) (version_closed walk_version k most_journal [] tt refl))
    (length_closed walk_version k most_journal [] tt refl (omega (arith, header_most walk_version)))

walk_held : (k : ℕ) → held_of (walk_journal k) ≡ 0
unfolding walk_journal
walk_held k = held_closed walk_version k most_journal [] tt (omega arith)

-- the whole output of such a session
pub output_executed : (bytes : List ℕ) (s : Session) → s ≡ session_of bytes → s.number ≡ DONE → AllAccepted s.count s.facts (program_part s bytes) 0
    → s.count ≤ walk_capacity s.k
    → output_of bytes ≡ executed_lines s.count s.k (program_part s bytes) 0 (state (vector_part s bytes) (predicate_part s bytes))
output_executed bytes s e done accepted fits =
    let parts = session_parts bytes s e done in
    let all : s.count + (most_words - s.count) ≡ most_words = omega (arith, parts.few) in
    let standing = session_standing bytes s parts in
    let going : Going s.count (session_core s) (program_part s bytes) 0 (session_buffers s bytes) =
    record {
      standing = standing;
      version = walk_version_lem s.k;
      room = omega (arith, walk_held s.k, walk_capacity_lem s.k, fits);
      words = omega (arith, parts.program_size);
      accepted = accepted;
    } in
    output_session bytes s e done
    ∙ ap (λ (n : ℕ). lines_from n (session_core s) (program_part s bytes) 0 (session_buffers s bytes)) (sym all)
    ∙ lines_enough s.count (most_words - s.count) (session_core s) (program_part s bytes) 0 (session_buffers s bytes) standing (omega (arith, parts.program_size))
    ∙ lines_executed s.count (session_core s) (program_part s bytes) 0 (session_buffers s bytes) going
