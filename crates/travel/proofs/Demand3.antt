-- Any steps, refused ones among them, from any registers of a legal length and a fresh journal: what is left is what the plain walk leaves
-- after as many words as the accepted steps forward exceed those back. So for travel, and for any chain of a host's own calls.
-- Assumes nothing.
use Prim.Native.Nat.{ℕ, zero, suc, ◌+◌, ◌-◌}
use mathlib.Core.Path.{◌≡◌, refl, sym, ◌∙◌, ap, subst}
use mathlib.Core.List.{List, [], ◌∷◌}
use native.Mathlib.Omega.{arith}
use Rattle.machine.specs.Refusal.{DONE}
use Rattle.journal.specs.Left.{Core, Buffers, buffers_of, Left}
use Rattle.steps.specs.Calls.{stepped, backed}
use Rattle.steps.proofs.Accepted.{step_refused, back_refused_lem}
use Rattle.travel.specs.declared.Travelled.{Travelled}
use Rattle.travel.specs.Walk.{walked_state, walked_entries, walked_buffers, Walkable, AsWalked}
use Rattle.travel.specs.Travel.{Trip, trip_of, starting, went_on, onward, travelled, FreshStart, Ahead, Made, Calls, none, forward, back, Demand3}
use Rattle.travel.proofs.Walked.{step_walks, back_walks, back_refuses}
use Rattle.travel.proofs.Fresh.{fresh_starts}

-- a trip that has reached a place of the plain walk, as many words on as steps were accepted forward less back
record Reached (c : Core) (start : Buffers) (program : List ℕ) (t : Trip) : Type 0 where
  words : ℕ
  ahead : t.made.forward ≡ t.made.back + words
  walked : AsWalked c program start words t.buffers

module _ (c : Core) (program : List ℕ) (start : Buffers) (fresh : FreshStart c.k start) where
  -- the buffers at place n of the plain walk
  abbrev at : ℕ → Buffers
  at n = walked_buffers c.k program start n

  -- a refused step stays at its place
  stays : (n : ℕ) (made : Travelled) (after : Buffers) → made.forward ≡ made.back + n → Walkable c program start n → after ≡ at n
      → Reached c start program (trip_of after made)
  stays n made after ahead w left = record { words = n; ahead = ahead; walked = record { left = left; walkable = w } }

  forward_reached : (n : ℕ) (made : Travelled) → made.forward ≡ made.back + n → Walkable c program start n
      → Reached c start program (onward c program 1 (trip_of (at n) made))
  forward_reached n made ahead w = go (stepped c program (at n)).number refl
    where
      go : (r : ℕ) → (stepped c program (at n)).number ≡ r → Reached c start program (onward c program 1 (trip_of (at n) made))
      go zero e = rw e (record { words = suc n; ahead = omega arith; walked = step_walks c program start fresh n w e })
      go (suc r) e = rw e (stays n made _ ahead w (step_refused c program (at n) (λ z. omega (arith, e, z))))

  back_reached : (n : ℕ) (made : Travelled) → made.forward ≡ made.back + n → Walkable c program start n
      → Reached c start program (onward c program 0 (trip_of (at n) made))
  back_reached n made ahead w = go n ahead w (backed c.k (at n)).number refl
    where
      go : (n : ℕ) → made.forward ≡ made.back + n → Walkable c program start n → (r : ℕ) → (backed c.k (at n)).number ≡ r
          → Reached c start program (onward c program 0 (trip_of (at n) made))
      go zero ahead w zero e = absurd (back_refuses c program start fresh w e)
      go (suc n) ahead w zero e = rw e (record { words = n; ahead = omega arith; walked = back_walks c program start fresh n w e })
      go n ahead w (suc r) e = rw e (stays n made _ ahead w (back_refused_lem c.k (at n) (λ z. omega (arith, e, z))))

  -- a step more, in either direction
  step_reached : (direction : ℕ) (t : Trip) → Reached c start program t → Reached c start program (onward c program direction t)
  step_reached direction t r =
      subst (λ (b : Buffers). Reached c start program (onward c program direction (trip_of b t.made))) (sym r.walked.left) (go direction)
    where
      go : (direction : ℕ) → Reached c start program (onward c program direction (trip_of (at r.words) t.made))
      go zero = back_reached r.words t.made r.ahead r.walked.walkable
      go (suc direction) = forward_reached r.words t.made r.ahead r.walked.walkable

  -- at the start no word is walked
  start_reached : Reached c start program (starting start)
  unfolding walked_state walked_entries
  start_reached =
      record {
        words = zero;
        ahead = refl;
        walked = record {
          left = ap (buffers_of start.files) fresh.fresh;
          walkable = record { inside = omega arith; few = omega arith; fits = omega arith; accepted = λ i h. absurd (omega arith); named = λ i h. absurd (omega arith) };
        };
      }

  -- steps one after the other
  all_reached : (directions : List ℕ) (t : Trip) → Reached c start program t → Reached c start program (travelled c program directions t)
  unfolding travelled
  all_reached [] t r = r
  all_reached (direction ∷ directions) t r = all_reached directions (onward c program direction t) (step_reached direction t r)

  -- a chain of calls, each of which leaves what its contract says
  calls_reached : (t : Trip) → Calls c program start t → Reached c start program t
  calls_reached _ none = start_reached
  calls_reached _ (forward {t} {r} {after} before made) =
      subst (λ (l : Left Buffers). Reached c start program (went_on 1 l t)) (sym made.leaves) (step_reached 1 t (calls_reached t before))
  calls_reached _ (back {t} {r} {after} before made) =
      subst (λ (l : Left Buffers). Reached c start program (went_on 0 l t)) (sym made.leaves) (step_reached 0 t (calls_reached t before))

  -- where it has got to is as many words on as its steps forward exceed those back
  reached_ahead : (t : Trip) → Reached c start program t → Ahead c start program t
  reached_ahead t r =
      let words : r.words ≡ t.made.forward - t.made.back = omega (arith, r.ahead) in
      record { ahead = omega (arith, r.ahead); walked = rw words at r.walked }

  pub travel_ahead : (directions : List ℕ) → Ahead c start program (travelled c program directions (starting start))
  travel_ahead directions = reached_ahead _ (all_reached directions (starting start) start_reached)

-- demand 3, over any chain of a host's own calls
pub demand_3 : Demand3
demand_3 c program s version old fresh t sized made calls =
    let start = fresh_starts c.k version s old DONE fresh sized made refl in
    reached_ahead c program (buffers_of s fresh) start t (calls_reached c program (buffers_of s fresh) start t calls)

-- what travel leaves in code is what the steps leave one after the other, and so from a fresh start what the plain walk leaves
pub made_all : (c : Core) (b : Buffers) (program directions : List ℕ) (after : Buffers) (made : Travelled)
    → trip_of after made ≡ travelled c program directions (starting b)
    → Made c b program directions after made
made_all c b program directions after made e =
    record { all = e; walked = λ fresh. subst (λ (t : Trip). Ahead c b program t) (sym e) (travel_ahead c program b fresh directions) }

-- the contract of travel allows one result
pub travel_determined : (c : Core) (b : Buffers) (program directions : List ℕ) (after other : Buffers) (m n : Travelled) → Made c b program directions after m
    → Made c b program directions other n
    → (m ≡ n) × (after ≡ other)
travel_determined c b program directions after other m n x y =
    let e : trip_of after m ≡ trip_of other n = x.all ∙ sym y.all in (ap (λ (t : Trip). t.made) e, ap (λ (t : Trip). t.buffers) e)
