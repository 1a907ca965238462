-- `put_pattern` meets its contract: a case for each kind of pattern, told by the arm that leads there; the text of the kind is written.
-- Assumes nothing.
use Rattle.std.proofs.Common.{◌∙◌, ap, arith}
use Rattle.patterns.specs.Lanes.{pattern_kind}
use Rattle.patterns.proofs.Patterns.{zero_kind, small_kind, large_kind, four_kind, three_kind, all_kind, other_kind, kind_room, kind_put}
use Rattle.patterns.proofs.put_pattern.Goals as goal

pub put_bytes-requires : goal.put_bytes-requires
put_bytes-requires c = kind_room _ _ (ap pattern_kind c.in-0.is ∙ zero_kind) c.requires

pub put_numbered-requires : goal.put_numbered-requires
put_numbered-requires c = kind_room _ _ (ap pattern_kind c.in-29.is ∙ four_kind) c.requires

pub put_numbered-requires-in-30 : goal.put_numbered-requires-in-30
put_numbered-requires-in-30 c = kind_room _ _ (ap pattern_kind c.in-30.is ∙ three_kind) c.requires

pub put_bytes-requires-in-31 : goal.put_bytes-requires-in-31
put_bytes-requires-in-31 c = kind_room _ _ (ap pattern_kind c.in-31.is ∙ all_kind) c.requires

pub put_numbered-requires-in-1-to-8 : goal.put_numbered-requires-in-1-to-8
put_numbered-requires-in-1-to-8 c = kind_room _ _ (small_kind _ (omega arith) (omega arith)) c.requires

pub put_numbered-requires-in-9-to-13 : goal.put_numbered-requires-in-9-to-13
put_numbered-requires-in-9-to-13 c = rw c.doubling_of.ensures (kind_room _ _ (large_kind _ (omega arith) (omega arith)) c.requires)

pub put_numbered-requires-in_default : goal.put_numbered-requires-in_default
put_numbered-requires-in_default c =
    kind_room _ _ (other_kind _ (omega arith) (λ e. omega arith) (λ e. omega arith) (λ e. omega arith)) c.requires

pub returns-in-0 : goal.returns-in-0
returns-in-0 c = kind_put _ (ap pattern_kind c.in-0.is ∙ zero_kind) c.put_bytes.ensures

pub returns-in-29 : goal.returns-in-29
returns-in-29 c = kind_put _ (ap pattern_kind c.in-29.is ∙ four_kind) c.put_numbered.ensures

pub returns-in-30 : goal.returns-in-30
returns-in-30 c = kind_put _ (ap pattern_kind c.in-30.is ∙ three_kind) c.put_numbered-in-30.ensures

pub returns-in-31 : goal.returns-in-31
returns-in-31 c = kind_put _ (ap pattern_kind c.in-31.is ∙ all_kind) c.put_bytes-in-31.ensures

pub returns-in-1-to-8 : goal.returns-in-1-to-8
returns-in-1-to-8 c = kind_put _ (small_kind _ (omega arith) (omega arith)) c.put_numbered-in-1-to-8.ensures

pub returns-in-9-to-13 : goal.returns-in-9-to-13
returns-in-9-to-13 c =
    kind_put _ (large_kind _ (omega arith) (omega arith)) (rw (← c.doubling_of.ensures) c.put_numbered-in-9-to-13.ensures)

pub returns-in_default : goal.returns-in_default
returns-in_default c =
    kind_put _ (other_kind _ (omega arith) (λ e. omega arith) (λ e. omega arith) (λ e. omega arith)) c.put_numbered-in_default.ensures
