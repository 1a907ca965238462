-- `write_session_refusal` meets its contract: OUT, or the number and the newline.
-- Assumes nothing.
use Rattle.std.proofs.Common.{refl, arith}
use borrow.Author.Tests.{lt-ltb, le-ltb}
use Rattle.machine.specs.Refusal.{OUT}
use Rattle.digits.specs.Digits.{digits_in, width_within, decimal_width}
use Rattle.lines.specs.Line.{session_line}
use Rattle.lines.proofs.Lines.{written_refused, written_done}
use Rattle.lines.proofs.write_session_refusal.Goals as goal

pub returns-then-out-lt-MOST_LINE : goal.returns-then-out-lt-MOST_LINE
unfolding width_within decimal_width
returns-then-out-lt-MOST_LINE c =
    written_refused _ _ _ _ OUT refl (rw (lt-ltb _ _ c.if-out-lt-MOST_LINE.true)) (λ e. omega arith)

pub put_field-requires : goal.put_field-requires
unfolding digits_in width_within decimal_width
put_field-requires c = omega arith

pub returns : goal.returns
unfolding session_line digits_in width_within decimal_width
returns c =
    written_done _ _ _ _ _ session_line _ refl (rw (le-ltb _ _ c.if-out-lt-MOST_LINE.false)) refl (omega arith) c.put_field.ensures
