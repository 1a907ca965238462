-- What was read and what was written of it make the whole output; the room for it is that of the longest.
use Rattle.std.proofs.Common.{rules, ◌<◌, length}
use Rattle.std.proofs.lemmas.Result.{on_ok_weaker}
use Rattle.digits.specs.Digits.{width_within, decimal_width}
use Rattle.session.specs.Layout.{most_session}
use Rattle.walk.proofs.Walked.{walked}
use Rattle.walk.proofs.walk.Goals as goal

pub write_walk-length-requires : goal.write_walk-length-requires
unfolding width_within decimal_width
write_walk-length-requires g c = search rules

pub returns : goal.returns
unfolding width_within decimal_width
returns g c =
    let read = c.in_ok-count.ensures in
    let written = c.write_walk-length.ensures in
    let room : most_session < length c.read_input.new.input = search rules in
    on_ok_weaker c.write_all.result
    (λ appended. walked _ _ _ _ _ _ _ _ _ room read.prefix_len.0 read.bytes read.whole (search rules) written.put appended)
    c.write_all.ensures.bytes
