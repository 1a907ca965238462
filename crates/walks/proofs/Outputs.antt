-- The lines of a walk as they are written: each turn writes what is printed of its step, and the others follow it; together they are no
-- longer than what the journal can hold makes them.
-- Assumes nothing.
use mathlib.Core.Path.{◌≡◌, refl, sym, ◌∙◌}
use mathlib.Core.Bool.{Bool, true, false}
use mathlib.Core.Logic.{◌↔◌}
use mathlib.Core.List.{List, [], ◌++◌, append-nil}
use Prim.Native.Nat.{ℕ, zero, suc, ◌+◌, ◌*◌, ◌-◌, ◌≤◌, ◌<◌}
use native.Mathlib.Nat.{zero-mul, suc-mul, mul-le-mul_right, div-mul-le_self}
use native.Mathlib.Omega.{arith}
use lib.Dec.{ltb}
use lib.ListN.{length, length-append, take, drop}
use lib.Seq.{take-length, take_at}
use borrow.Author.Tests.{ltb-false, le-leb}
use Rattle.machine.specs.Size.{most_words, is_legal}
use Rattle.machine.specs.Refusal.{DONE, OUT, in_order, First, refused, unless_refused}
use Rattle.machine.specs.Refusal.{Answer}
use Rattle.machine.proofs.Tests.{first_exactly, unless_refused_lem}
use Rattle.digits.specs.Digits.{digits_in, width_within, decimal_width}
use Rattle.digits.proofs.Puts.{put_length}
use Rattle.entries.specs.Layout.{layout_of, header_of, is_room, most_journal, entry_bytes, capacity_of, held_of, fresh_journal}
use Rattle.entries.proofs.Versions.{header_most}
use Rattle.entries.proofs.Written.{full_room, capacity_pushed, held_pushed}
use Rattle.entries.proofs.Closed.{length_closed}
use Rattle.journal.specs.Left.{Core, Buffers}
use Rattle.journal.specs.Calls.{Freshened}
use Rattle.journal.proofs.Left.{number_left, buffers_left}
use Rattle.journal.proofs.Accepted.{fresh_accepts, fresh_done}
use Rattle.steps.specs.Calls.{stepped, Stepped}
use Rattle.steps.proofs.Accepted.{step_accepted}
use Rattle.travel.proofs.Undone.{step_room}
use Rattle.session.specs.Body.{Session}
use Rattle.session.specs.Body.{program_part}
use Rattle.session.specs.Layout.{session_of}
use Rattle.lines.specs.Line.{most_line, session_line, Written}
use Rattle.lines.proofs.Lines.{written_put}
use Rattle.walks.specs.Output.{printed, lines_from, walk_version, walk_journal, session_buffers, session_core, session_lines, output_of, line_rate, lines_most, most_output, output_tests, OutputWritten}
use Rattle.walks.proofs.Printed.{printed_most, printed_done}

-- an accepted step's entry takes its bytes of the room for the lines to come
pub room_taken : (c : Core) (program : List ℕ) (b : Buffers) → (stepped c program b).number ≡ 0
    → lines_most c.k (stepped c program b).after.journal + line_rate * entry_bytes c.k ≡ lines_most c.k b.journal
room_taken c program b e =
    let a = step_accepted c program b e in
    let room = step_room c program b a in
    let free = full_room c.k b.journal a.room a.start.formed in
    rw (a.left, capacity_pushed c.k _ b.journal room, held_pushed c.k _ b.journal room)
    (one_less (capacity_of c.k b.journal) (held_of b.journal) (entry_bytes c.k) free)
  where
    one_less : (most held bytes : ℕ) → held < most
        → line_rate * ((most - (held + 1)) * bytes) + most_line + line_rate * bytes ≡ line_rate * ((most - held) * bytes) + most_line
    one_less most held bytes h =
        let more : most - held ≡ suc (most - (held + 1)) = omega arith in
        rw (more, suc-mul) (omega arith)

module _ (n : ℕ) (c : Core) (program : List ℕ) (position : ℕ) (b after : Buffers) (number : ℕ) (step : Stepped c program b number after) where
  -- after an accepted step the lines of the rest follow, and after a refused one none
  pub lines_more : number ≡ DONE
      → lines_from (suc n) c program position b ≡ printed c after.files program position number ++ lines_from n c program (position + 1) after
  unfolding lines_from
  lines_more done = rw (← step.leaves, done)

  pub lines_end : (number ≡ DONE → ⊥) → lines_from (suc n) c program position b ≡ printed c after.files program position number
  unfolding lines_from
  lines_end h =
      rw (← step.leaves, unless_refused_lem number (lines_from n c program (position + 1) after) [] h)
      (append-nil (printed c after.files program position number))

  -- what an accepted step prints takes no more than its entry's bytes make of the room for the lines to come
  pub turn_room : number ≡ DONE → length (printed c after.files program position number) + lines_most c.k after.journal ≤ lines_most c.k b.journal
  turn_room done =
      rw (buffers_left step.leaves, done)
      (omega (arith, printed_done c (stepped c program b).after.files program position, room_taken c program b (sym (number_left step.leaves) ∙ done)))

pub lines_none : (c : Core) (program : List ℕ) (position : ℕ) (b : Buffers) → lines_from 0 c program position b ≡ []
unfolding lines_from
lines_none c program position b = refl

-- so all lines are no longer than what the journal can still hold makes them
pub lines_most_lem : (n : ℕ) (c : Core) (program : List ℕ) (position : ℕ) (b : Buffers) → length (lines_from n c program position b) ≤ lines_most c.k b.journal
unfolding lines_from
lines_most_lem zero c program position b = omega arith
lines_most_lem (suc n) c program position b =
    rw length-append (go (stepped c program b).number refl (lines_most_lem n c program (position + 1) (stepped c program b).after))
  where
    go : (number : ℕ) → (stepped c program b).number ≡ number
        → length (lines_from n c program (position + 1) (stepped c program b).after) ≤ lines_most c.k (stepped c program b).after.journal
        → length (printed c (stepped c program b).after.files program position number)
        + length (unless_refused number (lines_from n c program (position + 1) (stepped c program b).after) [])
        ≤ lines_most c.k b.journal
    go zero e rest = omega (arith, printed_done c (stepped c program b).after.files program position, room_taken c program b e)
    go (suc number) e rest = omega (arith, printed_most c (stepped c program b).after.files program position (suc number))

-- a walk's journal has all its room
pub walk_room : (k : ℕ) → lines_most k (walk_journal k) ≤ most_output
unfolding walk_journal
walk_room k =
    let size = length_closed walk_version k most_journal [] tt refl (omega (arith, header_most walk_version, zero-mul (entry_bytes k))) in
    let journal = fresh_journal walk_version k most_journal in
    omega (
      arith,
      size,
      div-mul-le_self (length journal - header_of journal) (entry_bytes k),
      mul-le-mul_right (entry_bytes k) (free (capacity_of k journal) (held_of journal)),
    )
  where
    free : (most held : ℕ) → most - held ≤ most
    free most held = omega arith

-- the output of a session, and of other input
pub output_session : (input : List ℕ) (s : Session) → s ≡ session_of input → s.number ≡ DONE → output_of input ≡ session_lines s input
unfolding output_of
output_session input s e h = rw (← e, h)

pub output_none : (input : List ℕ) (s : Session) → s ≡ session_of input → (s.number ≡ DONE → ⊥) → output_of input ≡ session_line
unfolding output_of
output_none input s e h = rw (← e) (unless_refused_lem s.number (session_lines s input) session_line h)

-- the line of a session that is refused is short
session_short : length session_line ≤ most_line
unfolding session_line digits_in width_within decimal_width
session_short = omega arith

-- an output is not longer than the longest, and lies within what is lent
pub output_most : (input : List ℕ) → length (output_of input) ≤ most_output
unfolding output_of
output_most input = go (session_of input).number
  where
    go : (n : ℕ) → length (unless_refused n (session_lines (session_of input) input) session_line) ≤ most_output
    go zero =
        let s = session_of input in
        omega (arith, lines_most_lem most_words (session_core s) (program_part s input) 0 (session_buffers s input), walk_room s.k)
    go (suc n) = omega (arith, session_short)

pub output_within : (input old new : List ℕ) (r : Answer) → OutputWritten input old new r → r.value ≤ length new
output_within input old new r w = go (ltb (length old) most_output) refl
  where
    put : (n : ℕ) → Written n (output_of input) old new r → length (unless_refused n (output_of input) []) ≤ length old → r.value ≤ length new
    put n v fits =
        let p = written_put n (output_of input) old new r v fits in
        omega (arith, p.after, put_length p)

    go : (t : Bool) → ltb (length old) most_output ≡ t → r.value ≤ length new
    go true e = put OUT (rw e at w) (omega arith)
    go false e = put DONE (rw e at w) (omega (arith, output_most input, ltb-false (length old) most_output e))

-- the one test of an output is in order, and OUT comes exactly where it holds
pub output_in_order : (n : ℕ) → in_order (output_tests n) ≡ true
output_in_order n = refl

pub output_exactly : (n m : ℕ) → refused (output_tests n) ≡ suc m ↔ First (output_tests n) (suc m)
output_exactly n m = first_exactly (output_tests n) m

-- a file that is copied to the front of its room
pub copied_is : (z room file : List ℕ) (size : ℕ) → size ≡ length z → file ≡ take (length z) z ++ drop (length z) room → take size file ≡ z
copied_is z room file size e f = rw (e, f, take-length z) (take_at z (drop (length z) room) (length z) refl)

-- a journal of all the room that is made fresh is that of a walk
pub fresh_is : (k : ℕ) (journal : List ℕ) (r : ℕ) (after : List ℕ) → is_legal k ≡ true → most_journal ≡ length journal → Freshened k walk_version journal r after
    → after ≡ walk_journal k
unfolding walk_journal
fresh_is k journal r after legal e made =
    let least : (layout_of walk_version).header ≤ most_journal = omega (arith, header_most walk_version) in
    let room : is_room walk_version (length journal) ≡ true = rw (← e, le-leb _ _ least) in
    let done = fresh_accepts k walk_version journal (record { legal = legal; room = room; versioned = refl }) in
    buffers_left made ∙ fresh_done k walk_version journal done ∙ rw (← e)
