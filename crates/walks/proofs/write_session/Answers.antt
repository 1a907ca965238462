-- `write_session` meets its contract: the parts lie in the bytes, and the walk over them is the session's.
-- Assumes nothing.
use Rattle.std.proofs.Common.{ℕ, List, arith}
use Rattle.session.specs.Body.{Session}
use Rattle.session.specs.Body.{Parts}
use Rattle.session.proofs.Reading.{session_parts}
use Rattle.walks.specs.Output.{Given}
use Rattle.walks.proofs.write_session.Goals as goal

-- the session's parts
parts : (bytes out : List ℕ) (s : Session) → Given bytes s out → Parts bytes s
parts bytes out s given = session_parts bytes s given.reading given.done

pub slice_bounds-write_walk-count : goal.slice_bounds-write_walk-count
slice_bounds-write_walk-count c = omega (arith, parts _ _ _ c.requires)

pub slice_bounds-write_walk-start : goal.slice_bounds-write_walk-start
slice_bounds-write_walk-start c = omega (arith, parts _ _ _ c.requires)

pub slice_bounds-write_walk-end : goal.slice_bounds-write_walk-end
slice_bounds-write_walk-end c = omega (arith, parts _ _ _ c.requires)

pub slice_bounds-write_walk-count-2 : goal.slice_bounds-write_walk-count-2
slice_bounds-write_walk-count-2 c = omega (arith, parts _ _ _ c.requires)

pub slice_bounds-write_walk-start-2 : goal.slice_bounds-write_walk-start-2
slice_bounds-write_walk-start-2 c = omega (arith, parts _ _ _ c.requires)

pub slice_bounds-write_walk-end-2 : goal.slice_bounds-write_walk-end-2
slice_bounds-write_walk-end-2 c = omega (arith, parts _ _ _ c.requires)

pub slice_bounds-write_walk-count-3 : goal.slice_bounds-write_walk-count-3
slice_bounds-write_walk-count-3 c = omega (arith, parts _ _ _ c.requires)

pub slice_bounds-write_walk-start-3 : goal.slice_bounds-write_walk-start-3
slice_bounds-write_walk-start-3 c = omega (arith, parts _ _ _ c.requires)

pub slice_bounds-write_walk-end-3 : goal.slice_bounds-write_walk-end-3
slice_bounds-write_walk-end-3 c = omega (arith, parts _ _ _ c.requires)

pub write_walk-requires : goal.write_walk-requires
write_walk-requires c = record { files = (parts _ _ _ c.requires).files; room = c.requires.room }
