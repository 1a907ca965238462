-- `check_back` meets its contract: past the files the journal's refusal is the call's, and past both the count is tested.
use Rattle.std.proofs.Common.{ℕ, List, ◌≡◌, ◌++◌, refl, sym, ap, ◌∙◌, length}
use borrow.Author.Tests.{eq-eqb}
use Rattle.machine.specs.Refusal.{DONE, answered, files_tests, refused}
use Rattle.machine.proofs.Codes.{passed_on, code_not_done}
use Rattle.machine.proofs.Tests.{Checked, checked, first_after}
use Rattle.registers.specs.State.{State, state}
use Rattle.entries.specs.Tests.{journal_tests}
use Rattle.journal.specs.Left.{buffers_of}
use Rattle.journal.specs.Calls.{empty_tests, back_refused}
use Rattle.journal.proofs.check_back.Goals as goal

-- the files' refusal is the call's
files : (k : ℕ) (s : State) (journal : List ℕ) {r : ℕ} → r ≡ refused (files_tests k (length s.z) (length s.p))
    → Checked r (back_refused k (buffers_of s journal)) (refused (journal_tests k journal ++ empty_tests journal))
unfolding back_refused
files k s journal answers = checked (files_tests k (length s.z) (length s.p)) tt refl answers

-- past the files the journal's refusal is the call's, and past it the count decides
form : (k : ℕ) (s : State) (journal : List ℕ) {r : ℕ} → DONE ≡ refused (files_tests k (length s.z) (length s.p))
    → r ≡ refused (journal_tests k journal)
    → Checked r (back_refused k (buffers_of s journal)) (refused (empty_tests journal))
unfolding back_refused
form k s journal files answers =
    checked (journal_tests k journal) tt (first_after (files_tests k (length s.z) (length s.p)) _ tt (sym files)) answers

pub returns-in_err-k-clause-number : goal.returns-in_err-k-clause-number
returns-in_err-k-clause-number c =
    let a = c.args in
    ap answered (passed_on c.from_residual.result _ c.from_residual.ensures.1)
    ∙ (files a.k (state a.z.now a.p.now) a.journal.now c.in_err-k.ensures.number).refuses (code_not_done _)

pub returns-in_err-check_journal-clause-number : goal.returns-in_err-check_journal-clause-number
returns-in_err-check_journal-clause-number c =
    let a = c.args in
    let passed = c.from_residual-in_err-check_journal in
    ap answered (passed_on passed.result _ passed.ensures.1)
    ∙ (form a.k (state a.z.now a.p.now) a.journal.now c.in_ok-k.ensures.number (rw c.in_ok-k.ensures.units at c.in_err-check_journal.ensures)).refuses (code_not_done _)

pub returns-then-held_of-eq0-clause-number : goal.returns-then-held_of-eq0-clause-number
returns-then-held_of-eq0-clause-number c =
    let a = c.args in
    sym
    ((form a.k (state a.z.now a.p.now) a.journal.now c.in_ok-k.ensures.number (rw c.in_ok-k.ensures.units at c.in_ok-check_journal.ensures)).passes refl
    ∙ rw (eq-eqb _ _ (sym c.held_of.ensures ∙ c.if-held_of-eq0.true)))
