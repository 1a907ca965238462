-- The position along a walk, as the call answers it: 0 after fresh, one more after an accepted step, one less after an accepted step back; and
-- from a fresh start as many as the accepted steps forward exceed those back.
-- Assumes nothing.
use Prim.Native.Nat.{ℕ, ◌+◌, ◌-◌}
use mathlib.Core.Path.{◌≡◌, refl, sym, ◌∙◌}
use mathlib.Core.Bool.{true}
use mathlib.Core.List.{List, []}
use native.Mathlib.Omega.{arith}
use lib.ListN.{length}
use Rattle.machine.specs.Size.{is_legal}
use Rattle.machine.specs.Refusal.{DONE}
use Rattle.entries.specs.Layout.{position_of, fresh_journal, popped}
use Rattle.entries.specs.Formed.{Formed}
use Rattle.entries.proofs.Written.{position_pushed, formed_pushed, position_popped, position_some, formed_popped}
use Rattle.entries.proofs.Closed.{position_closed, formed_none}
use Rattle.journal.specs.Left.{Core, Buffers}
use Rattle.journal.specs.Calls.{freshened, Freshened}
use Rattle.journal.proofs.Left.{number_left, buffers_left}
use Rattle.journal.proofs.Accepted.{fresh_accepted, fresh_done, position_accepts}
use Rattle.steps.specs.Calls.{Stepped, Backed}
use Rattle.steps.proofs.Accepted.{step_accepted, back_accepted}
use Rattle.travel.specs.Travel.{Trip, FreshStart, Ahead, PositionIs, OneOn}
use Rattle.travel.proofs.Undone.{step_room}
use Rattle.travel.proofs.Walked.{position, formed_walked}

-- of a well-formed journal at a legal length the position is answered
told : (k n : ℕ) (journal : List ℕ) → is_legal k ≡ true → Formed k journal → position_of journal ≡ n → PositionIs k journal n
told k n journal legal formed e = rw (position_accepts k journal legal formed, e)

-- a fresh journal's position is 0
pub position_of_fresh : (k version : ℕ) (journal : List ℕ) (r : ℕ) (after : List ℕ) → Freshened k version journal r after → r ≡ DONE
    → PositionIs k after 0
position_of_fresh k version journal r after made done =
    let e : (freshened k version journal).number ≡ DONE = sym (number_left made) ∙ done in
    let known = fresh_accepted k version journal e in
    let left : after ≡ fresh_journal version k (length journal) = buffers_left made ∙ fresh_done k version journal e in
    rw left
    (told k 0 (fresh_journal version k (length journal)) known.legal (formed_none version k (length journal) known.versioned known.room)
    (position_closed version k (length journal) [] tt (omega arith)))

-- an accepted step is one on
pub position_of_step : (c : Core) (program : List ℕ) (b : Buffers) (r : ℕ) (after : Buffers) → Stepped c program b r after → r ≡ DONE
    → OneOn c.k b.journal after.journal
position_of_step c program b r after made done =
    let a = step_accepted c program b (sym (number_left made.leaves) ∙ done) in
    let room = step_room c program b a in
    let legal = a.start.sized.legal in
    rw (buffers_left made.leaves ∙ a.left)
    (record {
      position = position_of b.journal;
      before = told c.k (position_of b.journal) b.journal legal a.start.formed refl;
      after = told c.k (position_of b.journal + 1) _ legal (formed_pushed c.k _ b.journal room a.named) (position_pushed c.k _ b.journal room);
    })

-- an accepted step back is one back
pub position_of_back : (k : ℕ) (b : Buffers) (r : ℕ) (after : Buffers) → Backed k b r after → r ≡ DONE → OneOn k after.journal b.journal
position_of_back k b r after made done =
    let a = back_accepted k b (sym (number_left made.leaves) ∙ done) in
    let s = a.start in
    let legal = s.sized.legal in
    let some = position_some k b.journal s.formed s.some in
    rw (buffers_left made.leaves ∙ a.left)
    (record {
      position = position_of b.journal - 1;
      before = told k (position_of b.journal - 1) (popped k b.journal) legal (formed_popped k b.journal s.formed s.some)
          (position_popped k b.journal s.formed s.some);
      after = told k (position_of b.journal - 1 + 1) b.journal legal s.formed (omega (arith, some));
    })

-- after any steps from a fresh start it is as many as the accepted steps forward exceed those back
pub position_ahead : (c : Core) (program : List ℕ) (start : Buffers) (t : Trip) → FreshStart c.k start → Ahead c start program t
    → PositionIs c.k t.buffers.journal (t.made.forward - t.made.back)
position_ahead c program start t fresh ahead =
    let w = ahead.walked in
    let n = t.made.forward - t.made.back in
    rw w.left
    (told c.k n _ fresh.sized.legal (formed_walked c program start fresh n w.walkable) (position c program start fresh n w.walkable))
