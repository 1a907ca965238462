-- `check_step` meets its contract: past the files each check's refusal is the call's, and past all of them the position is tested.
use Rattle.std.proofs.Common.{ℕ, List, ◌≡◌, ◌++◌, refl, sym, ap, ◌∙◌, length}
use borrow.Author.Tests.{le-leb}
use Rattle.machine.specs.Refusal.{Test, DONE, answered, files_tests, program_tests, refused}
use Rattle.machine.proofs.Codes.{passed_on, code_not_done}
use Rattle.machine.proofs.Tests.{Checked, checked, first_after}
use Rattle.registers.specs.State.{State, state}
use Rattle.programs.specs.Word.{end_tests}
use Rattle.entries.specs.Layout.{position_of}
use Rattle.entries.specs.Tests.{journal_tests}
use Rattle.journal.specs.Left.{buffers_of}
use Rattle.journal.specs.Calls.{start_refused}
use Rattle.journal.proofs.check_step.Goals as goal

-- the files' refusal is the call's
first_files : (k : ℕ) (s : State) (words journal : List ℕ) {r : ℕ} → r ≡ refused (files_tests k (length s.z) (length s.p))
    → Checked r (start_refused k words (buffers_of s journal))
    (refused (program_tests (length words) ++ journal_tests k journal ++ end_tests (length words) (position_of journal)))
unfolding start_refused
first_files k s words journal answers = checked (files_tests k (length s.z) (length s.p)) tt refl answers

-- past the files each check's refusal is the call's, and past it the later tests decide
module _ (k : ℕ) (s : State) (words journal : List ℕ) (files : DONE ≡ refused (files_tests k (length s.z) (length s.p))) where
  -- the answer of the call, and the last test
  abbrev answer : ℕ
  answer = start_refused k words (buffers_of s journal)

  abbrev ended : List Test
  ended = end_tests (length words) (position_of journal)

  program : {r : ℕ} → r ≡ refused (program_tests (length words)) → Checked r answer (refused (journal_tests k journal ++ ended))
  unfolding start_refused
  program answers = checked (program_tests (length words)) tt (first_after (files_tests k (length s.z) (length s.p)) _ tt (sym files)) answers

  form : {r : ℕ} → DONE ≡ refused (program_tests (length words)) → r ≡ refused (journal_tests k journal) → Checked r answer (refused ended)
  form whole answers = checked (journal_tests k journal) tt ((program whole).passes refl) answers

pub returns-in_err-k-clause-number : goal.returns-in_err-k-clause-number
returns-in_err-k-clause-number c =
    let a = c.args in
    ap answered (passed_on c.from_residual.result _ c.from_residual.ensures.1)
    ∙ (first_files a.k (state a.z.now a.p.now) a.program.now a.journal.now c.in_err-k.ensures.number).refuses (code_not_done _)

pub returns-in_err-check_program-clause-number : goal.returns-in_err-check_program-clause-number
returns-in_err-check_program-clause-number c =
    let a = c.args in
    let passed = c.from_residual-in_err-check_program in
    ap answered (passed_on passed.result _ passed.ensures.1)
    ∙ (program a.k (state a.z.now a.p.now) a.program.now a.journal.now c.in_ok-k.ensures.number c.in_err-check_program.ensures).refuses
    (code_not_done _)

pub returns-in_err-check_journal-clause-number : goal.returns-in_err-check_journal-clause-number
returns-in_err-check_journal-clause-number c =
    let a = c.args in
    let passed = c.from_residual-in_err-check_journal in
    ap answered (passed_on passed.result _ passed.ensures.1)
    ∙ (form a.k (state a.z.now a.p.now) a.program.now a.journal.now c.in_ok-k.ensures.number c.in_ok-check_program.ensures
    (rw c.in_ok-k.ensures.units at c.in_err-check_journal.ensures)).refuses
    (code_not_done _)

pub returns-then-program-position_of-clause-number : goal.returns-then-program-position_of-clause-number
returns-then-program-position_of-clause-number c =
    let a = c.args in
    sym
    ((form a.k (state a.z.now a.p.now) a.program.now a.journal.now c.in_ok-k.ensures.number c.in_ok-check_program.ensures
    (rw c.in_ok-k.ensures.units at c.in_ok-check_journal.ensures)).passes
    refl
    ∙ rw (le-leb _ _ (rw c.position_of.ensures at c.if-program-position_of.true)))
