-- `put_name` meets its contract: six bytes are the name with its space, or the name that wants it.
-- Assumes nothing.
use Rattle.digits.proofs.Puts.{put_then}
use Rattle.names.proofs.Keys.{name_five, name_six}
use Rattle.names.proofs.put_name.Goals as goal

pub returns-then-key-eq32 : goal.returns-then-key-eq32
returns-then-key-eq32 c =
    let key = c.key_of-key.ensures.is in
    rw (name_five _ c.requires.1 (rw key at c.if-key-eq32.true), ← key) c.put_bytes-next.ensures

pub returns-else-key-eq32 : goal.returns-else-key-eq32
returns-else-key-eq32 c =
    let key = c.key_of-key.ensures.is in
    rw (name_six _ c.requires.1 (rw key at c.if-key-eq32.false), ← key) (put_then c.put_bytes-next.ensures c.put.ensures)
