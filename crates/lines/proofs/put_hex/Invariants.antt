-- The invariant: the bytes from i on are written.
-- Assumes nothing.
use Rattle.std.proofs.Common.{◌≤◌, length, drop}
use Rattle.digits.specs.Put.{Put}
use Rattle.lines.specs.Line.{hex_of}
use Rattle.lines.proofs.put_hex.Given as goal

abbrev pub invariant-loop-i : goal.invariant-loop-i
invariant-loop-i l = (l.i ≤ length l.bytes) × Put l.fn.out l.at (hex_of (drop l.i l.bytes)) l.out l.next
