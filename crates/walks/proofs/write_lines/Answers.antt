-- `write_lines` meets its contract: a refused step's line is the last of the rest, and an accepted one's comes before those of the words after it.
-- Assumes nothing.
use Rattle.std.proofs.Common.{ℕ, suc, ◌≡◌, ◌+◌, ◌-◌, ◌<◌, arith}
use Rattle.machine.specs.Size.{most_words}
use Rattle.machine.proofs.Codes.{accepted, not_accepted}
use Rattle.registers.specs.State.{state}
use Rattle.journal.specs.Left.{core_of, buffers_of}
use Rattle.digits.proofs.Puts.{put_then, put_none}
use Rattle.walks.proofs.Outputs.{lines_more, lines_end, lines_none, turn_room}
use Rattle.walks.proofs.write_lines.Goals as goal

-- a word is left
left : (position : ℕ) → position < most_words → most_words - position ≡ suc (most_words - (position + 1))
left position h = omega arith

pub loop-position-preserved : goal.loop-position-preserved
loop-position-preserved c =
    let a = c.args in
    let core = core_of a.core.k a.core.facts in
    let l = c.loop-position in
    let lent = buffers_of (state l.z l.p) l.journal in
    let turn = c.step_line-outcome.ensures in
    record {
      room = omega (arith, turn.shown.after, turn_room 0 core a.program.now l.position lent _ _ turn.stepped (accepted _ c.is_err.ensures.value c.if-is_err.false));
      rest = λ m r h. l.invariant.rest m r
          (rw (
            left l.position c.loop-position-test.true,
            lines_more _ core a.program.now l.position lent _ _ turn.stepped (accepted _ c.is_err.ensures.value c.if-is_err.false),
          )
          (put_then turn.shown h));
    }

pub returns-then-is_err : goal.returns-then-is_err
returns-then-is_err c =
    let a = c.args in
    let core = core_of a.core.k a.core.facts in
    let l = c.loop-position in
    let turn = c.step_line-outcome.ensures in
    l.invariant.rest _ _
    (rw (
      left l.position c.loop-position-test.true,
      lines_end _ core a.program.now l.position (buffers_of (state l.z l.p) l.journal) _ _ turn.stepped (not_accepted _ c.is_err.ensures.value c.if-is_err.true),
    )
    turn.shown)

pub returns-after-loop-position : goal.returns-after-loop-position
returns-after-loop-position c =
    let l = c.loop-position in
    let none : most_words - l.position ≡ 0 = omega arith in
    l.invariant.rest _ _ (rw (none, lines_none) (put_none l.out l.at))
