-- A journal that the call has made fresh, with files of a legal length's sizes, is where demand 3 starts.
-- Assumes nothing.
use Prim.Native.Nat.{ℕ}
use mathlib.Core.Path.{◌≡◌, sym, ◌∙◌, ap}
use mathlib.Core.List.{List, []}
use native.Mathlib.Omega.{arith}
use native.Mathlib.Nat.{zero-mul}
use lib.ListN.{length}
use Rattle.machine.specs.Refusal.{DONE}
use Rattle.registers.specs.State.{State, Sized}
use Rattle.entries.specs.Layout.{version_of, entry_bytes, fresh_journal}
use Rattle.entries.proofs.Places.{room_least}
use Rattle.entries.proofs.Closed.{version_closed, length_closed}
use Rattle.journal.specs.Left.{buffers_of}
use Rattle.journal.specs.Calls.{freshened, Freshened}
use Rattle.journal.proofs.Left.{number_left, buffers_left}
use Rattle.journal.proofs.Accepted.{fresh_accepted, fresh_done}
use Rattle.travel.specs.Travel.{FreshStart}

pub fresh_starts : (k version : ℕ) (s : State) (old : List ℕ) (r : ℕ) (fresh : List ℕ) → Sized k s → Freshened k version old r fresh → r ≡ DONE
    → FreshStart k (buffers_of s fresh)
fresh_starts k version s old r fresh sized made done =
    let e : (freshened k version old).number ≡ DONE = sym (number_left made) ∙ done in
    let known = fresh_accepted k version old e in
    let room = known.room in
    let versioned = known.versioned in
    let left : fresh ≡ fresh_journal version k (length old) = buffers_left made ∙ fresh_done k version old e in
    let size : length fresh ≡ length old =
    ap length left ∙ length_closed version k (length old) [] tt versioned (omega (arith, room_least version (length old) room, zero-mul (entry_bytes k))) in
    let is : version_of fresh ≡ version = ap version_of left ∙ version_closed version k (length old) [] tt versioned in
    record { sized = sized; versioned = rw is versioned; room = rw (is, size) room; fresh = rw (is, size) left }
