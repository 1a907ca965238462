-- The bytes that are written, then those of what is left, are those of the number.
use Rattle.std.proofs.Common.{◌≡◌, ◌-◌, ◌++◌, take}
use Rattle.parts.specs.Number.{bytes_of}
use Rattle.parts.proofs.put_by_bytes.Given as goal

abbrev pub invariant-loop-byte : goal.invariant-loop-byte
invariant-loop-byte l = take l.byte-index l.byte-items ++ bytes_of (l.w - l.byte-index) l.rest ≡ bytes_of l.w l.n
