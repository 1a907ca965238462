-- The bytes that are written are the predicate's, and the lanes left are those of the bytes to come.
use Rattle.std.proofs.Common.{◌≡◌, ◌-◌, ◌*◌, ◌/◌, take}
use Rattle.lanes.specs.Lane.{width_of}
use Rattle.lanes.specs.Sum.{each}
use Rattle.made.specs.Made.{made_byte}
use Rattle.made.proofs.put_made.Given as goal

abbrev pub invariant-loop-byte : goal.invariant-loop-byte
invariant-loop-byte l =
    record {
      lanes : l.left ≡ l.count - l.byte-index * (8 / width_of l.size);
      bytes : take l.byte-index l.register ≡ each (made_byte l.size l.count) 0 l.byte-index;
    }
