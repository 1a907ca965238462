-- The bytes that are written, then those still to write from the value, are all that is asked for.
use Rattle.std.proofs.Common.{◌≡◌, ◌-◌, ◌<◌, ◌++◌, length, take}
use Rattle.fillings.specs.Filled.{filled_from}
use Rattle.fillings.proofs.fill.Given as goal

abbrev pub invariant-loop-byte : goal.invariant-loop-byte
invariant-loop-byte l =
    record {
      small : l.value < 256;
      grows : take l.byte-index l.bytes ++ filled_from l.cut (length l.fn.bytes - l.byte-index) l.value ≡ filled_from l.cut (length l.fn.bytes) l.fn.seed;
    }
