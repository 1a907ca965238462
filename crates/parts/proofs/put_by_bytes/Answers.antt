-- Each turn writes the lowest byte of what is left.
use Rattle.std.proofs.Common.{◌∙◌, rules}
use Rattle.parts.proofs.Numbers.{bytes_next}
use Rattle.parts.proofs.put_by_bytes.Goals as goal

pub loop-byte-preserved : goal.loop-byte-preserved
loop-byte-preserved c =
    bytes_next c.loop-byte.byte-items c.loop-byte.byte-index c.args.w c.loop-byte.rest (search rules) (search rules) ∙ c.loop-byte.invariant
