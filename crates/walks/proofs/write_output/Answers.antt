-- `write_output` meets its contract: OUT, the line of a session that is refused, or the session's lines, which the output holds.
-- Assumes nothing.
use Rattle.std.proofs.Common.{◌≤◌, refl, length, arith}
use borrow.Author.Tests.{lt-ltb, le-ltb}
use Rattle.machine.specs.Size.{most_words}
use Rattle.machine.specs.Refusal.{OUT}
use Rattle.digits.specs.Digits.{width_within, decimal_width}
use Rattle.machine.proofs.Codes.{code_not_done}
use Rattle.session.specs.Body.{program_part, session_told}
use Rattle.lines.specs.Line.{most_line}
use Rattle.lines.proofs.Lines.{written_refused, written_done}
use Rattle.walks.specs.Output.{session_buffers, session_core, session_lines, most_output}
use Rattle.walks.proofs.Outputs.{lines_most_lem, walk_room, output_session, output_none}
use Rattle.walks.proofs.write_output.Goals as goal

pub returns-then-out-lt-MOST_OUTPUT : goal.returns-then-out-lt-MOST_OUTPUT
unfolding width_within decimal_width
returns-then-out-lt-MOST_OUTPUT c = written_refused _ _ _ _ OUT refl (rw (lt-ltb _ _ c.if-out-lt-MOST_OUTPUT.true)) (λ e. omega arith)

pub write_session-requires : goal.write_session-requires
unfolding width_within decimal_width
write_session-requires c = record { reading = c.in-Ok.ensures; done = refl; room = c.if-out-lt-MOST_OUTPUT.false }

pub returns-in-Err : goal.returns-in-Err
unfolding width_within decimal_width
returns-in-Err c =
    let room : most_output ≤ length c.args.out.now = c.if-out-lt-MOST_OUTPUT.false in
    let line : most_line ≤ length c.args.out.now = omega arith in
    rw (le-ltb _ _ room, output_none c.args.bytes.now _ c.in-Err.ensures (code_not_done _))
    (rw (le-ltb _ _ line) at c.write_session_refusal.ensures)

pub returns-in-Ok : goal.returns-in-Ok
unfolding width_within decimal_width
returns-in-Ok c =
    let input = c.args.bytes.now in
    let s = session_told c.in-Ok.session in
    let room : most_output ≤ length c.args.out.now = c.if-out-lt-MOST_OUTPUT.false in
    let fits = lines_most_lem most_words (session_core s) (program_part s input) 0 (session_buffers s input) in
    written_done _ _ _ _ _ (session_lines s input) _ refl (rw (le-ltb _ _ room))
    (output_session input s c.in-Ok.ensures refl)
    (omega (arith, fits, walk_room s.k))
    c.write_session.ensures
