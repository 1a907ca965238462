-- Below the bytes that are read stands the number that they make.
use Rattle.std.proofs.Common.{◌≡◌, ◌+◌, ◌-◌, take, drop}
use Rattle.parts.specs.Number.{number}
use Rattle.parts.proofs.number_by_bytes.Given as goal

abbrev pub invariant-loop-i : goal.invariant-loop-i
invariant-loop-i l = l.n ≡ number (take (l.w - l.i) (drop (l.at + l.i) l.bytes))
