-- `put_hex` meets its contract: the two digits of the byte before i are written after those of the bytes from i on.
-- Assumes nothing.
use Rattle.std.proofs.Common.{◌≡◌, drop, arith, length-drop}
use lib.Seq.{drop-length}
use Rattle.digits.proofs.Puts.{put_then, put_none, put_length}
use Rattle.lines.specs.Line.{hex_of}
use Rattle.lines.proofs.Hex.{hex_length, hex_next}
use Rattle.lines.proofs.put_hex.Goals as goal

pub loop-i-init : goal.loop-i-init
unfolding hex_of
loop-i-init c = (omega arith, rw (drop-length c.args.bytes.now) (put_none _ _))

pub put_digits-next-requires : goal.put_digits-next-requires
put_digits-next-requires c =
    let l = c.loop-i in
    let bytes = c.args.bytes.now in (
      omega arith,
      omega arith,
      omega (arith, put_length l.invariant.1, l.invariant.1.after, hex_length (drop l.i bytes), length-drop l.i bytes, hex_length bytes),
    )

pub loop-i-preserved : goal.loop-i-preserved
loop-i-preserved c =
    let l = c.loop-i in
    (omega arith, rw (hex_next c.args.bytes.now l.i (omega arith) l.invariant.0) (put_then l.invariant.1 c.put_digits-next.ensures))

pub returns : goal.returns
returns c =
    let l = c.loop-i in
    let none : l.i ≡ 0 = omega arith in
    rw none at l.invariant.1
