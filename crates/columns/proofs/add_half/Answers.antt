-- `add_half` meets its contract: at each turn the place moves on by one lane, whose sum has one segment more.
-- Assumes nothing.
use Rattle.std.proofs.Common.{◌≡◌, ℕ, ◌+◌, ◌*◌, ◌/◌, ◌%◌, ◌<◌, false, List, length, ap, ◌∙◌, arith}
use Rattle.machine.proofs.Places.{place_within}
use Rattle.lanes.specs.Lane.{lane, with_lane, LaneIn}
use Rattle.lanes.specs.Integer.{residue}
use Rattle.lanes.specs.Sum.{active_element}
use Rattle.sums.specs.Sums.{GovernedLane}
use Rattle.sums.specs.Panel.{per_segment}
use Rattle.columns.specs.Added.{per_half, added_row, GovernedHalf}
use Rattle.columns.proofs.Halves.{fills_half, two_halves, half_lane, place_below, lane_in_half}
use Rattle.columns.proofs.Adding.{added_next, added_length}
use Rattle.columns.proofs.add_half.Goals as goal

-- lane e of half h: its place in a segment, and what the turn does with it
module _ (w h : ℕ) (predicate register : List ℕ) (g : GovernedHalf w h predicate register) (e : ℕ) (below : e < per_half w) where
  abbrev place : ℕ
  place = h % 2 * per_half w + e

  abbrev row : List ℕ
  row = added_row w predicate register (h / 2) place

  whole : per_segment w ≡ per_half w + per_half w
  whole = two_halves w g.governs.least g.governs.most g.fills

  ahead : place < per_segment w
  ahead = place_below w (per_half w) h e below whole

  taken : GovernedLane w (h * per_half w + e) predicate register
  taken = record {
    governs = g.governs;
    inside = omega (arith, g.inside, lane_in_half w (per_half w) h e below (fills_half w g.governs.least g.governs.most g.fills));
  }

  put : (at : List ℕ) → at ≡ row → LaneIn w place at
  put at is = record {
    narrow = g.governs.most;
    inside = omega (arith, ap length is, added_length w predicate register (h / 2) place g.fills (omega (arith, ahead)), g.fills, place_within place (per_segment w) w ahead);
  }

  next : (at : List ℕ) (n : ℕ) → at ≡ row → n ≡ residue 64 (active_element false w predicate register (h * per_half w + e))
      → with_lane w place (lane w place at + n) at ≡ added_row w predicate register (h / 2) (h % 2 * per_half w + (e + 1))
  next at n is adds =
      ap (λ (l : List ℕ). with_lane w place (lane w place l + n) l) is
      ∙ added_next w predicate register (h / 2) place n g.governs.most ahead
      (adds ∙ ap (λ (i : ℕ). residue 64 (active_element false w predicate register i)) (half_lane w (per_half w) h e below whole))
      ∙ ap (added_row w predicate register (h / 2)) (omega arith)

pub lane_value-n-requires : goal.lane_value-n-requires
lane_value-n-requires c = taken _ _ _ _ c.requires.0 _ c.loop-e-test.true

pub add_lane-requires : goal.add_lane-requires
add_lane-requires c = put _ _ _ _ c.requires.0 _ c.loop-e-test.true _ c.loop-e.invariant

pub loop-e-preserved : goal.loop-e-preserved
loop-e-preserved c = c.add_lane.ensures ∙ next _ _ _ _ c.requires.0 _ c.loop-e-test.true _ _ c.loop-e.invariant c.lane_value-n.ensures
