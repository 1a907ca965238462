-- The output in the paper's words: with a fresh journal the position is the number of words walked, so each line shows the word that its step
-- executed or refused, and at END nothing is printed. As many steps as words are left suffice: more print no further line.
-- Assumes nothing.
use mathlib.Core.Path.{◌≡◌, refl, sym, ◌∙◌, ap, ap₂}
use mathlib.Core.Bool.{Bool, true, false, cond, not}
use mathlib.Core.List.{List, [], ◌++◌}
use Prim.Native.Nat.{ℕ, zero, suc, ◌+◌, ◌*◌, ◌%◌, ◌≤◌, ◌<◌}
use native.Mathlib.Nat.{zero-add, suc-add}
use native.Mathlib.Omega.{arith}
use lib.Dec.{eqb, leb}
use lib.ListN.{length}
use borrow.Author.Tests.{eq-eqb, ne_eqb, le-leb, lt-leb, leb-true, leb-false}
use Rattle.machine.specs.Size.{is_program, word_bytes, most_words}
use Rattle.machine.specs.Refusal.{DONE, JOURNAL, END, UNKNOWN, UNDEFINED, FULL, refused, unless_refused}
use Rattle.machine.proofs.Tests.{first_after}
use Rattle.registers.specs.Register.{entry_number}
use Rattle.registers.specs.State.{Sized}
use Rattle.words.specs.Decode.{number_of, fields_of, word_tests}
use Rattle.words.specs.Decode.{Decoded}
use Rattle.cores.specs.Core.{decoded_on}
use Rattle.programs.specs.Word.{word_at, words_of}
use Rattle.meaning.specs.Execute.{target_of}
use Rattle.meaning.proofs.Effects.{executed_sized}
use Rattle.entries.specs.Layout.{layout_of, most_journal, position_of, may_name, is_full}
use Rattle.entries.specs.Formed.{Formed}
use Rattle.entries.specs.Tests.{journal_tests}
use Rattle.entries.proofs.Formed.{formed_passes}
use Rattle.entries.proofs.Versions.{header_most}
use Rattle.entries.proofs.Written.{position_pushed, formed_pushed}
use Rattle.entries.proofs.Closed.{position_closed, formed_none}
use Rattle.journal.specs.Left.{Core, Buffers, Left}
use Rattle.steps.specs.Calls.{word_now, fields_now, past_tests, stepped}
use Rattle.steps.proofs.Accepted.{step_number, step_accepted, step_refused}
use Rattle.travel.proofs.Undone.{step_room}
use Rattle.session.specs.Body.{Session}
use Rattle.session.specs.Body.{program_part, Parts}
use Rattle.session.specs.Layout.{session_of}
use Rattle.session.proofs.Reading.{session_parts}
use Rattle.lines.specs.Line.{step_line}
use Rattle.walks.specs.Output.{printed, lines_from, walk_version, walk_journal, session_buffers, session_core, output_of}
use Rattle.walks.specs.Paper.{paper_lines}
use Rattle.walks.proofs.Printed.{end_silent, refused_printed, done_printed}
use Rattle.walks.proofs.Outputs.{output_session}

-- what is known of a walk at its position
pub record Standing (c : Core) (program : List ℕ) (position : ℕ) (b : Buffers) : Type 0 where
  pub files : Sized c.k b.files
  pub whole : is_program (length program) ≡ true
  pub formed : Formed c.k b.journal
  pub place : position_of b.journal ≡ position

-- the refusals past END are others
past_end : (a b n f : Bool) → cond a UNKNOWN (cond b UNDEFINED (cond n JOURNAL (cond f FULL DONE))) ≡ END → ⊥
past_end true b n f e = omega arith
past_end false true n f e = omega arith
past_end false false true f e = omega arith
past_end false false false true e = omega arith
past_end false false false false e = omega arith

module _ (c : Core) (program : List ℕ) (position : ℕ) (b : Buffers) (at : Standing c program position b) where
  -- what the step leaves, and its answer
  abbrev left : Left Buffers
  left = stepped c program b

  abbrev number : ℕ
  number = left.number

  -- its word as the core takes it, and the refusal of a step past END
  abbrev word : Decoded
  word = decoded_on c.facts (word_now program b.journal)

  abbrev late : ℕ
  late = refused (word_tests word ++ past_tests c.k (fields_of word) b.journal)

  -- a step is refused with END exactly at the program's end
  pub step_is : number ≡ cond (leb (words_of (length program)) position) END late
  step_is =
      step_number c program b
      ∙ rw (at.files.legal, eq-eqb _ _ at.files.vector_size, eq-eqb _ _ at.files.predicate_size, at.whole)
      (first_after (journal_tests c.k b.journal) (cond (leb (words_of (length program)) (position_of b.journal)) END late) tt
      (formed_passes c.k b.journal at.formed))
      ∙ ap (λ (place : ℕ). cond (leb (words_of (length program)) place) END late) at.place

  at_end : words_of (length program) ≤ position → number ≡ END
  at_end h = step_is ∙ rw (le-leb _ _ h)

  before_end : position < words_of (length program) → number ≡ END → ⊥
  before_end h e =
      past_end (eqb (number_of word) UNKNOWN) (eqb (number_of word) UNDEFINED) (not (may_name (entry_number (target_of (fields_of word))) b.journal))
      (is_full c.k b.journal)
      (rw (lt-leb _ _ h) at (sym step_is ∙ e))

  -- the files keep their sizes
  pub files_after : Sized c.k left.after.files
  files_after = go number refl
    where
      go : (n : ℕ) → number ≡ n → Sized c.k left.after.files
      go zero e =
          let a = step_accepted c program b e in
          rw a.left (executed_sized (fields_now program b.journal) c.k b.files a.executes)
      go (suc n) e = rw (step_refused c program b (λ z. omega (arith, e, z))) at.files

  -- what is printed of the step
  turn_paper : printed c left.after.files program position number ≡ cond (eqb number END) [] (step_line c.k left.after.files program position number)
  turn_paper = go (leb (words_of (length program)) position) refl
    where
      line : position < words_of (length program) → (n : ℕ) → number ≡ n
          → printed c left.after.files program position n ≡ step_line c.k left.after.files program position n
      line below zero e =
          done_printed c left.after.files program position files_after at.whole below
          (ap number_of (ap (λ (i : ℕ). decoded_on c.facts (word_at program i)) (sym at.place) ∙ (step_accepted c program b e).word))
      line below (suc n) e = refused_printed c left.after.files program position files_after at.whole below (suc n) (λ h. omega arith)

      go : (t : Bool) → leb (words_of (length program)) position ≡ t
          → printed c left.after.files program position number ≡ cond (eqb number END) [] (step_line c.k left.after.files program position number)
      go true e =
          let h = leb-true (words_of (length program)) position e in
          end_silent c left.after.files program position number h ∙ rw (at_end h)
      go false e =
          let h = leb-false (words_of (length program)) position e in
          line h number refl ∙ rw (ne_eqb _ _ (before_end h))

  -- after an accepted step the walk stands at the next position
  pub standing_next : number ≡ 0 → Standing c program (position + 1) left.after
  standing_next e =
      let a = step_accepted c program b e in
      let room = step_room c program b a in
      record {
        files = files_after;
        whole = at.whole;
        formed = rw a.left (formed_pushed c.k _ b.journal room a.named);
        place = rw a.left (position_pushed c.k _ b.journal room ∙ rw at.place);
      }

-- lines that follow an accepted step agree where they agree after one
follow : (r : ℕ) (a b : List ℕ) → (r ≡ 0 → a ≡ b) → unless_refused r a [] ≡ unless_refused r b []
follow zero a b same = same refl
follow (suc r) a b same = refl

-- the lines of a walk are the paper's
lines_paper : (n : ℕ) (c : Core) (program : List ℕ) (position : ℕ) (b : Buffers) → Standing c program position b
    → lines_from n c program position b ≡ paper_lines n c program position b
unfolding lines_from paper_lines
lines_paper zero c program position b at = refl
lines_paper (suc n) c program position b at =
    ap₂ (λ (x y : List ℕ). x ++ y) (turn_paper c program position b at)
    (follow (stepped c program b).number _ _ (λ e. lines_paper n c program (position + 1) (stepped c program b).after (standing_next c program position b at e)))

-- past the program's end no line is printed, however many steps are taken
lines_ended : (n : ℕ) (c : Core) (program : List ℕ) (position : ℕ) (b : Buffers) → Standing c program position b → words_of (length program) ≤ position
    → lines_from n c program position b ≡ []
unfolding lines_from
lines_ended zero c program position b at ended = refl
lines_ended (suc n) c program position b at ended =
    rw (at_end c program position b at ended, end_silent c (stepped c program b).after.files program position END ended)

-- as many steps as words are left suffice: with more the lines are the same
pub lines_enough : (n more : ℕ) (c : Core) (program : List ℕ) (position : ℕ) (b : Buffers) → Standing c program position b → words_of (length program) ≤ position + n
    → lines_from (n + more) c program position b ≡ lines_from n c program position b
unfolding lines_from
lines_enough zero more c program position b at ended =
    ap (λ (n : ℕ). lines_from n c program position b) (zero-add more) ∙ lines_ended more c program position b at (omega arith)
lines_enough (suc n) more c program position b at ended =
    ap (λ (steps : ℕ). lines_from steps c program position b) (suc-add n more)
    ∙ ap (λ (rest : List ℕ). printed c (stepped c program b).after.files program position (stepped c program b).number ++ rest)
    (follow (stepped c program b).number _ _
    (λ e. lines_enough n more c program (position + 1) (stepped c program b).after (standing_next c program position b at e) (omega arith)))

-- a session's walk starts at position 0
pub session_standing : (bytes : List ℕ) (s : Session) → Parts bytes s → Standing (session_core s) (program_part s bytes) 0 (session_buffers s bytes)
unfolding walk_journal
session_standing bytes s parts =
    let few : word_bytes * s.count ≤ word_bytes * most_words = omega (arith, parts.few) in
    let header = header_most walk_version in
    record {
      files = parts.files;
      whole = rw (parts.program_size, eq-eqb (word_bytes * s.count % word_bytes) 0 (omega arith), le-leb _ _ few);
      formed = formed_none walk_version s.k most_journal refl (rw (le-leb (layout_of walk_version).header most_journal (omega (arith, header))) refl);
      place = position_closed walk_version s.k most_journal [] tt (omega arith);
    }

module _ (bytes : List ℕ) (s : Session) (e : s ≡ session_of bytes) (done : s.number ≡ DONE) where
  parts : Parts bytes s
  parts = session_parts bytes s e done

  -- the whole output of a session is the paper's
  pub output_paper : output_of bytes ≡ paper_lines most_words (session_core s) (program_part s bytes) 0 (session_buffers s bytes)
  output_paper =
      output_session bytes s e done
      ∙ lines_paper most_words (session_core s) (program_part s bytes) 0 (session_buffers s bytes) (session_standing bytes s parts)

  -- and a walk of more steps prints no more
  pub output_enough : (more : ℕ) → lines_from (most_words + more) (session_core s) (program_part s bytes) 0 (session_buffers s bytes) ≡ output_of bytes
  output_enough more =
      lines_enough most_words more (session_core s) (program_part s bytes) 0 (session_buffers s bytes) (session_standing bytes s parts)
      (omega (arith, parts.program_size, parts.few))
      ∙ sym (output_session bytes s e done)
