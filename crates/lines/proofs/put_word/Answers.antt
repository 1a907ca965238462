-- `put_word` meets its contract: the digits, then the newline.
-- Assumes nothing.
use Rattle.std.proofs.Common.{arith}
use Rattle.digits.specs.Digits.{digits_in}
use Rattle.digits.proofs.Puts.{put_then}
use Rattle.digits.proofs.Decimals.{digits_length}
use Rattle.lines.specs.Line.{sixteen, word_hex_digits}
use Rattle.lines.proofs.Lines.{ended_length}
use Rattle.lines.proofs.put_word.Goals as goal

pub put_digits-end-requires : goal.put_digits-end-requires
put_digits-end-requires c =
    let word = c.args.word in
    (omega arith, omega arith, omega (arith, ended_length (digits_in sixteen word_hex_digits word), digits_length sixteen word_hex_digits word))

pub returns : goal.returns
returns c = put_then c.put_digits-end.ensures c.put.ensures
