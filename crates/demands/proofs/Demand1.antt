-- Demand 1 by the calls' own theorems: each number is the refusal of a list of tests in the paper's order, so that every refusal comes exactly
-- in its case; and what is lent, or the value, is by the contract as it stood, or nothing, wherever the number is a refusal's.
-- Assumes nothing.
use Prim.Native.Nat.{ℕ, zero, suc, ◌+◌}
use mathlib.Core.Path.{◌≡◌, refl, sym, ◌∙◌, ap}
use mathlib.Core.Bool.{Bool, true, false}
use mathlib.Core.Logic.{◌↔◌, ◌⊎◌, inl, inr, ⊎_elim}
use mathlib.Core.List.{List, []}
use native.Mathlib.Omega.{arith}
use lib.ListN.{length}
use Rattle.parts.specs.Part.{laid}
use Rattle.machine.specs.Refusal.{Answer}
use Rattle.machine.proofs.Tests.{first_exactly, unless_refused_lem}
use Rattle.facts.specs.declared.Facts.{Facts}
use Rattle.facts.specs.Facts.{all_facts}
use Rattle.words.specs.Decode.{decoded, number_of, fields_of, no_fields}
use Rattle.words.specs.Decode.{Decoded}
use Rattle.words.specs.Decode.{Unknown, Undefined, Word}
use Rattle.words.proofs.Answers.{unknown_exactly, undefined_exactly}
use Rattle.cores.specs.Core.{decoded_on}
use Rattle.cores.proofs.Answers.{unknown_on, undefined_on, accepted_exactly, on_all}
use Rattle.programs.proofs.Reading.{place_in_order, read_unmoved}
use Rattle.assembles.specs.Assembled.{Assembled}
use Rattle.assembles.proofs.Theorems.{text_exactly}
use Rattle.machine.specs.Refusal.{DONE, UNDEFINED, UNKNOWN, TEXT, SESSION, Test, in_order, refused, unless_refused, answer}
use Rattle.registers.specs.Register.{file_of, register_of, vector_of, predicate_of}
use Rattle.registers.specs.State.{State}
use Rattle.lanes.specs.Lane.{width_of}
use Rattle.programs.specs.Word.{word_at, place_tests, next_refused}
use Rattle.programs.specs.Read.{Read}
use Rattle.pane.specs.Drawn.{register_tests}
use Rattle.pane.proofs.Drawing.{register_in_order, empty_place}
use Rattle.sums.specs.Panel.{panel_of, no_panel}
use Rattle.totals.specs.Calls.{panel_tests, subtotal_tests}
use Rattle.totals.specs.Written.{panel_written_tests, panel_laid}
use Rattle.totals.specs.Lane.{lane_tests, lane_refused, lane_told, no_lane}
use Rattle.totals.specs.Lane.{Lane}
use Rattle.totals.proofs.Lanes.{lane_in_order}
use Rattle.about.specs.About.{row_tests, row_refused, row_told, no_about}
use Rattle.about.specs.About.{About}
use Rattle.about.proofs.Answers.{row_in_order}
use Rattle.totals.proofs.Answers.{panel_in_order, subtotal_in_order}
use Rattle.totals.proofs.Written.{panel_written_in_order}
use Rattle.names.specs.Named.{text_of_word, name_tests}
use Rattle.names.proofs.Naming.{name_in_order}
use Rattle.entries.specs.Layout.{position_of}
use Rattle.journal.specs.Calls.{fresh_tests, back_tests, position_tests, position_refused, entry_tests, entry_refused, entry_told, no_entry}
use Rattle.journal.specs.Calls.{Held}
use Rattle.journal.proofs.Left.{number_left, buffers_left}
use Rattle.journal.proofs.Accepted.{fresh_number, fresh_refused}
use Rattle.journal.proofs.Answers.{fresh_in_order, position_in_order, entry_in_order}
use Rattle.steps.specs.Calls.{step_tests}
use Rattle.steps.proofs.Accepted.{step_number, step_refused, back_tests_lem, back_refused_lem}
use Rattle.steps.proofs.Answers.{step_in_order, back_in_order}
use Rattle.lines.specs.Line.{step_line, session_line, line_tests, line_refused, session_line_tests, Written}
use Rattle.lines.proofs.Lines.{line_in_order, session_line_in_order}
use Rattle.session.specs.Body.{no_session}
use Rattle.session.specs.Layout.{is_session, session_tests, session_of, IsSession}
use Rattle.session.proofs.Reading.{tested, session_in_order, session_exactly}
use Rattle.walks.specs.Output.{output_tests, output_of}
use Rattle.walks.proofs.Outputs.{output_in_order}
use Rattle.demands.specs.Demands.{Exactly, WhenRefused, AnswersExactly, DecodesExactly, AssemblesExactly, WritingCalls, TellingCalls, Demand1}

-- a number that is the refusal of tests in order
exactly_refused : (tests : List Test) (number : ℕ) → in_order tests ≡ true → number ≡ refused tests → Exactly tests number
exactly_refused tests number ordered is =
    record { ordered = ordered; exactly = λ n. (λ e. (first_exactly tests n).0 (sym is ∙ e), λ h. is ∙ (first_exactly tests n).1 h) }

-- a thing that is made unless it is refused, with the refusal's number
when_refused : {X : Type 0} (number refusal : ℕ) (x made other : X) → number ≡ refusal → x ≡ unless_refused refusal made other → WhenRefused number x other
when_refused number refusal x made other is e h = e ∙ unless_refused_lem refusal made other (λ z. h (is ∙ z))

-- an answer by its tests
answers : (tests : List Test) (refusal value : ℕ) (r : Answer) → in_order tests ≡ true → refusal ≡ refused tests → r ≡ answer refusal value → AnswersExactly tests r
answers tests refusal value r ordered is e =
    let number : r.number ≡ refusal = ap (λ (a : Answer). a.number) e in
    record {
      number = exactly_refused tests r.number ordered (number ∙ is);
      nothing = when_refused r.number refusal r.value value 0 number (ap (λ (a : Answer). a.value) e);
    }

-- a call that tells several values, or with a refusal its number and nothing
tells : {X : Type 0} (tests : List Test) (refusal : ℕ) (number : X → ℕ) (nothing : ℕ → X) (told r : X) → in_order tests ≡ true → refusal ≡ refused tests
    → number told ≡ DONE → ((n : ℕ) → number (nothing n) ≡ n) → r ≡ unless_refused refusal told (nothing refusal)
    → Exactly tests (number r) × WhenRefused (number r) r (nothing (number r))
tells {X} tests refusal number nothing told r ordered is done none e = (
  exactly_refused tests (number r) ordered (same ∙ is),
  λ h. when_refused (number r) refusal r told (nothing refusal) same e h ∙ ap nothing (sym same),
)
  where
    by : (n : ℕ) → number (unless_refused n told (nothing n)) ≡ n
    by zero = done
    by (suc n) = none (suc n)

    same : number r ≡ refusal
    same = ap number e ∙ by refusal

-- nothing laid over what stood leaves it
stands : (number refusal : ℕ) (made old new : List ℕ) → number ≡ refusal → new ≡ laid (unless_refused refusal made []) old → WhenRefused number new old
stands number refusal made old new is e h = e ∙ ap (λ (l : List ℕ). laid l old) (unless_refused_lem refusal made [] (λ z. h (is ∙ z)))

-- what a call that writes at the front of an output answers and leaves
written : (tests : List Test) (refusal : ℕ) (line old new : List ℕ) (r : Answer) → in_order tests ≡ true → refusal ≡ refused tests → Written refusal line old new r
    → AnswersExactly tests r × WhenRefused r.number new old
written tests refusal line old new r ordered is made = (
  answers tests refusal (length line) r ordered is made.answered,
  stands r.number refusal line old new (ap (λ (a : Answer). a.number) made.answered) made.bytes,
)

-- the numbers of a line, of a position, of a lane, of an entry and of a session are those of their tests, and a row is told with DONE
line_number : (k : ℕ) (facts : Facts) (s : State) (program : List ℕ) (position number n : ℕ)
    → line_refused k facts s program position number n ≡ refused (line_tests k facts s program position number n)
unfolding line_refused
line_number k facts s program position number n = refl

position_number : (k : ℕ) (journal : List ℕ) → position_refused k journal ≡ refused (position_tests k journal)
unfolding position_refused
position_number k journal = refl

lane_number : (k : ℕ) (z p : List ℕ) (source predicate size e : ℕ) → lane_refused k z p source predicate size e ≡ refused (lane_tests k z p source predicate size e)
unfolding lane_refused
lane_number k z p source predicate size e = refl

entry_number_lem : (k : ℕ) (journal : List ℕ) (i : ℕ) → entry_refused k journal i ≡ refused (entry_tests k journal i)
unfolding entry_refused
entry_number_lem k journal i = refl

row_number : (row : ℕ) → (row_told row).number ≡ DONE
unfolding row_told
row_number row = refl

-- bytes that pass the test of a session are one, and answered so
session_done : (bytes : List ℕ) → is_session bytes ≡ true → (session_of bytes).number ≡ DONE
session_done bytes e = ⊎_elim (λ done. done.0) (λ none. absurd (none.1 (tested bytes e))) (session_exactly bytes)

-- a session's number, and what is answered where it is refused
session_number : (bytes : List ℕ) → (session_of bytes).number ≡ refused (session_tests bytes)
unfolding session_of
session_number bytes = go (is_session bytes) refl
  where
    go : (t : Bool) → is_session bytes ≡ t → (session_of bytes).number ≡ refused (session_tests bytes)
    go true e = let none : refused (session_tests bytes) ≡ DONE = rw e in session_done bytes e ∙ sym none
    go false e = rw e

session_none : (bytes : List ℕ) → WhenRefused (session_of bytes).number (session_of bytes) no_session
unfolding session_of
session_none bytes = go (is_session bytes) refl
  where
    go : (t : Bool) → is_session bytes ≡ t → WhenRefused (session_of bytes).number (session_of bytes) no_session
    go true e = λ h. absurd (h (session_done bytes e))
    go false e = rw e (λ h. refl)

session_refused_lem : (bytes : List ℕ) → (session_of bytes).number ≡ SESSION ↔ (IsSession bytes → ⊥)
session_refused_lem bytes =
    ⊎_elim
    (λ (done : ((session_of bytes).number ≡ DONE) × IsSession bytes). (λ e. absurd (omega (arith, e, done.0)), λ no. absurd (no done.1)))
    (λ (none : ((session_of bytes).number ≡ SESSION) × (IsSession bytes → ⊥)). (λ _. none.1, λ _. none.0))
    (session_exactly bytes)

-- what a word decodes to on a core
decodes : (facts : Facts) (word : ℕ) (r : Decoded) → r ≡ decoded_on facts word → DecodesExactly facts word r
decodes facts word r is = rw is
    (record {
      listed = listed (decoded_on facts word);
      unknown = (λ e. (unknown_exactly word).0 ((unknown_on facts word).0 e), λ h. (unknown_on facts word).1 ((unknown_exactly word).1 h));
      undefined = (
        λ e. ⊎_elim (λ (u : number_of (decoded word) ≡ UNDEFINED). inl ((undefined_exactly word).0 u)) (λ l. inr l) ((undefined_on facts word).0 e),
        λ h. (undefined_on facts word).1 (⊎_elim (λ u. inl ((undefined_exactly word).1 u)) (λ l. inr l) h),
      );
      accepted = accepted_exactly facts word;
      nothing = nothing (decoded_on facts word);
    })
  where
    listed : (d : Decoded) → (number_of d ≡ DONE) ⊎ ((number_of d ≡ UNKNOWN) ⊎ (number_of d ≡ UNDEFINED))
    listed Unknown = inr (inl refl)
    listed Undefined = inr (inr refl)
    listed (Word f) = inl refl

    nothing : (d : Decoded) → WhenRefused (number_of d) (fields_of d) no_fields
    nothing Unknown h = refl
    nothing Undefined h = refl
    nothing (Word f) h = absurd (h refl)

-- what a text is assembled to
assembles : (facts : Facts) (text : List ℕ) (r : Answer) → Assembled text facts r → AssemblesExactly facts text r
assembles facts text r a =
    record {
      listed = a.number;
      refused = text_exactly facts text r a;
      nothing = λ h. ⊎_elim (λ (done : r.number ≡ DONE). absurd (h done)) (λ (none : r.number ≡ TEXT). (a.refused none).0) a.number;
    }

writing_calls : WritingCalls
writing_calls =
    record {
      fresh = λ k version old new r made. (
        exactly_refused (fresh_tests k version old) r (fresh_in_order k version old) (number_left made ∙ fresh_number k version old),
        λ h. buffers_left made ∙ fresh_refused k version old (λ z. h (number_left made ∙ z)),
      );
      step = λ c program b after r made. (
        exactly_refused (step_tests c program b) r (step_in_order c program b) (number_left made.leaves ∙ step_number c program b),
        λ h. buffers_left made.leaves ∙ step_refused c program b (λ z. h (number_left made.leaves ∙ z)),
      );
      back = λ k b after r made. (
        exactly_refused (back_tests k b) r (back_in_order k b) (number_left made.leaves ∙ back_tests_lem k b),
        λ h. buffers_left made.leaves ∙ back_refused_lem k b (λ z. h (number_left made.leaves ∙ z)),
      );
      text = λ word facts old new r made. (
        answers (name_tests (length old) word facts) _ (length (text_of_word word)) r (name_in_order (length old) word facts) refl made.answered,
        stands r.number _ (text_of_word word) old new (ap (λ (a : Answer). a.number) made.answered) made.bytes,
      );
      panel = λ k z p source predicate size old new r made. (
        exactly_refused (panel_written_tests k z p source predicate size (length old)) r (panel_written_in_order k z p source predicate size (length old)) made.answered,
        when_refused r _ new (panel_laid k z p source predicate size old) old made.answered made.bytes,
      );
      line = λ k facts s program position number old new r made.
          written (line_tests k facts s program position number (length old)) _ (step_line k s program position number) old new r
          (line_in_order k facts s program position number (length old))
          (line_number k facts s program position number (length old))
          made;
      session_line = λ old new r made. written (session_line_tests (length old)) _ session_line old new r (session_line_in_order (length old)) refl made;
      output = λ bytes old new r made. written (output_tests (length old)) _ (output_of bytes) old new r (output_in_order (length old)) refl made;
    }

telling_calls : TellingCalls
telling_calls =
    record {
      position = λ k journal r is.
          answers (position_tests k journal) (position_refused k journal) (position_of journal) r (position_in_order k journal) (position_number k journal) is;
      decode = decodes;
      decode_anywhere = λ word r is. decodes all_facts word r (is ∙ sym (on_all word));
      assemble = assembles;
      word = λ program at r is. rw is (
        exactly_refused (place_tests (length program) at) (next_refused program at) (place_in_order (length program) at) refl,
        unless_refused_lem (next_refused program at) (word_at program at) 0,
        unless_refused_lem (next_refused program at) (at + 1) at,
      );
      reader = λ place r is.
          let program = place.program.now in
          rw is (
            exactly_refused (place_tests (length program) place.at) (next_refused program place.at) (place_in_order (length program) place.at) refl,
            unless_refused_lem (next_refused program place.at) (word_at program place.at) 0,
            λ h. ap (λ (a : Read). a.reader) (read_unmoved place h),
          );
      register = λ k z p part kind i r is drawn. (
        exactly_refused (register_tests k z.now p.now kind i) r (register_in_order k z.now p.now kind i) is,
        when_refused r _ part.now (register_of k kind i (file_of kind z.now p.now)) [] is drawn.0,
        λ h. drawn.1 ∙ empty_place k z p kind i (λ e. h (is ∙ e)),
      );
      panel = λ k z p source predicate size r shown is e. (
        exactly_refused (panel_tests k z p source predicate size) r (panel_in_order k z p source predicate size) is,
        when_refused r _ shown (panel_of (width_of size) (predicate_of k predicate p) (vector_of k source z)) no_panel is e,
      );
      subtotal = λ k z p source predicate size signed a b r is.
          answers (subtotal_tests k z p source predicate size a b) _ _ r (subtotal_in_order k z p source predicate size a b) refl is;
      lane = λ k z p source predicate size signed e r is.
          tells (lane_tests k z p source predicate size e) (lane_refused k z p source predicate size e) (λ (l : Lane). l.number) no_lane
          (lane_told k z p source predicate size signed e) r
          (lane_in_order k z p source predicate size e)
          (lane_number k z p source predicate size e)
          refl
          (λ n. refl)
          is;
      entry = λ k journal i r is.
          tells (entry_tests k journal i) (entry_refused k journal i) (λ (e : Held). e.number) no_entry (entry_told k journal i) r (entry_in_order k journal i)
          (entry_number_lem k journal i)
          refl
          (λ n. refl)
          is;
      row = λ row r is.
          tells (row_tests row) (row_refused row) (λ (a : About). a.number) no_about (row_told row) r (row_in_order row) refl (row_number row) (λ n. refl) is;
      session = λ bytes r is. rw is (
        exactly_refused (session_tests bytes) (session_of bytes).number (session_in_order bytes) (session_number bytes),
        session_none bytes,
        session_refused_lem bytes,
      );
    }

pub demand_1 : Demand1
demand_1 = record { writing = writing_calls; telling = telling_calls }
