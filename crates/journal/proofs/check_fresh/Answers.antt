-- `check_fresh` meets its contract: past the length the refusal of the size is the call's.
use Rattle.std.proofs.Common.{ℕ, List, ◌≡◌, sym, ap, ◌∙◌, length}
use Rattle.machine.specs.Refusal.{DONE, answered, length_tests, refused}
use Rattle.machine.proofs.Codes.{passed_on, code_not_done}
use Rattle.machine.proofs.Tests.{Checked, checked, first_after}
use Rattle.entries.specs.Tests.{room_tests, version_tests}
use Rattle.journal.specs.Calls.{fresh_tests}
use Rattle.journal.proofs.check_fresh.Goals as goal

-- past the length the refusal of the size is the call's, and past it the version decides
room : (k version : ℕ) (journal : List ℕ) {r : ℕ} → DONE ≡ refused (length_tests k) → r ≡ refused (room_tests version (length journal))
    → Checked r (refused (fresh_tests k version journal)) (refused (version_tests version))
room k version journal legal answers = checked (room_tests version (length journal)) tt (first_after (length_tests k) _ tt (sym legal)) answers

pub returns-in_err-check_room_for-clause-number : goal.returns-in_err-check_room_for-clause-number
returns-in_err-check_room_for-clause-number c =
    let a = c.args in
    let passed = c.from_residual-in_err-check_room_for in
    ap answered (passed_on passed.result _ passed.ensures.1)
    ∙ (room a.k a.version a.journal.now c.in_ok-k.ensures.number c.in_err-check_room_for.ensures).refuses (code_not_done _)
