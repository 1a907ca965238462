-- A count of at least a byte's lanes fills the byte.
use Rattle.std.proofs.Common.{sym, ◌∙◌, mul-le-mul_right}
use Rattle.lanes.specs.Lane.{width_of}
use Rattle.made.proofs.Bytes.{lanes_fill, byte_whole}
use Rattle.made.proofs.lanes_below.Goals as goal

pub returns-then-size-count : goal.returns-then-size-count
returns-then-size-count c =
    c.every_lane.ensures
    ∙ sym (byte_whole c.args.size c.args.count (rw (← lanes_fill c.args.size c.requires) (mul-le-mul_right (width_of c.args.size) c.if-size-count.true)))
