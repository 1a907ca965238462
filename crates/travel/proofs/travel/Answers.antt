-- `travel` meets its contract: the steps that are left, taken from here, leave what all of them leave from the start.
-- Assumes nothing.
use Rattle.std.proofs.Common.{ℕ, List, ◌≡◌, ◌+◌, ◌<◌, sym, ◌∙◌, ap, add-one, arith, length, get_or, drop}
use lib.Seq.{drop-cons, drop-length}
use Rattle.machine.specs.Refusal.{answered}
use Rattle.registers.specs.State.{state}
use Rattle.journal.specs.Left.{Core, core_of, buffers_of}
use Rattle.travel.specs.declared.Travelled.{Travelled}
use Rattle.travel.specs.Travel.{Trip, trip_of, travelled, onward}
use Rattle.travel.proofs.Directed.{counted_few, trip_onward}
use Rattle.travel.proofs.Demand3.{made_all}
use Rattle.travel.proofs.travel.Goals as goal

-- the step at a place, and then those after it
trip_next : (c : Core) (program directions : List ℕ) (i : ℕ) (t after : Trip) → i < length directions → after ≡ onward c program (get_or directions i 0) t
    → travelled c program (drop (i + 1) directions) after ≡ travelled c program (drop i directions) t
unfolding travelled
trip_next c program directions i t after h is =
    rw (is, add-one i) (sym (ap (λ (rest : List ℕ). travelled c program rest t) (drop-cons directions i 0 h)))

-- past the last step
trip_ended : (c : Core) (program directions : List ℕ) (i : ℕ) (t : Trip) → i ≡ length directions → travelled c program (drop i directions) t ≡ t
unfolding travelled
trip_ended c program directions i t end =
    ap (λ (rest : List ℕ). travelled c program rest t) (ap (λ (j : ℕ). drop j directions) end ∙ drop-length directions)

pub loop-direction-preserved : goal.loop-direction-preserved
loop-direction-preserved c =
    let a = c.args in
    let core = core_of a.core.k a.core.facts in
    let l = c.loop-direction in
    let number = answered c.go-outcome.result in
    let direction = get_or a.directions.now l.direction-index 0 in
    let few = counted_few direction number l.direction-index l.made l.invariant.forward l.invariant.back in
    record {
      forward = omega (arith, few.0, ap (λ (m : Travelled). m.forward) c.counted-made.ensures);
      back = omega (arith, few.1, ap (λ (m : Travelled). m.back) c.counted-made.ensures);
      trip = trip_next core a.program.now a.directions.now l.direction-index (trip_of (buffers_of (state l.z l.p) l.journal) l.made) _ (omega arith)
          (trip_onward core a.program.now direction (buffers_of (state l.z l.p) l.journal) number _ l.made c.counted-made.result c.go-outcome.ensures
          c.counted-made.ensures)
          ∙ l.invariant.trip;
    }

pub returns : goal.returns
returns c =
    let a = c.args in
    let core = core_of a.core.k a.core.facts in
    let l = c.loop-direction in
    let b = buffers_of (state l.z l.p) l.journal in
    made_all core (buffers_of (state a.z.now a.p.now) a.journal.now) a.program.now a.directions.now b l.made
    (sym (trip_ended core a.program.now a.directions.now l.direction-index (trip_of b l.made) (omega arith)) ∙ l.invariant.trip)
