-- `check_entry` meets its contract: the refusal of a position is the call's; past it the number of entries decides.
use Rattle.std.proofs.Common.{ℕ, List, [], ◌∷◌, ◌≡◌, refl, sym, ap, ◌∙◌}
use lib.Dec.{leb}
use borrow.Author.Tests.{le-leb}
use Rattle.machine.specs.Refusal.{answered, refused, range_test}
use Rattle.machine.proofs.Codes.{passed_on, code_not_done}
use Rattle.machine.proofs.Tests.{Checked, checked}
use Rattle.entries.specs.Layout.{held_of}
use Rattle.journal.specs.Calls.{position_tests, position_refused, entry_refused}
use Rattle.journal.proofs.check_entry.Goals as goal

-- the refusal of a position is the call's, and past it the number of entries decides
position : (k : ℕ) (journal : List ℕ) (i : ℕ) {r : ℕ} → r ≡ position_refused k journal
    → Checked r (entry_refused k journal i) (refused (range_test (leb (held_of journal) i) ∷ []))
unfolding entry_refused position_refused
position k journal i answers = checked (position_tests k journal) tt refl answers

pub returns-in_err-k-clause-number : goal.returns-in_err-k-clause-number
returns-in_err-k-clause-number c =
    ap answered (passed_on c.from_residual.result _ c.from_residual.ensures.1)
    ∙ (position c.args.k c.args.journal.now c.args.i c.in_err-k.ensures.number).refuses (code_not_done _)

pub returns-then-held_of-i-clause-number : goal.returns-then-held_of-i-clause-number
returns-then-held_of-i-clause-number c =
    sym
    ((position c.args.k c.args.journal.now c.args.i c.in_ok-k.ensures.number).passes refl
    ∙ rw (le-leb _ _ (rw c.held_of.ensures at c.if-held_of-i.true)))
