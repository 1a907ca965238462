-- Steps forward and back over the same buffers, all on one core, and what is left of them; a chain of a host's own calls, and what demand 3
-- says of it.
use Rattle.std.specs.Prelude.{ℕ, zero, suc, ◌+◌, ◌-◌, ◌≤◌, ◌<◌, ◌≡◌, true, List, [], ◌∷◌, length}
use Rattle.machine.specs.Refusal.{DONE, unless_refused}
use Rattle.registers.specs.State.{State, Sized}
use Rattle.entries.specs.Layout.{is_version, version_of, is_room, fresh_journal}
use Rattle.journal.specs.Left.{Core, Buffers, buffers_of, Left, left_with}
use Rattle.journal.specs.Calls.{position_answer, Freshened}
use Rattle.steps.specs.Calls.{stepped, backed, Stepped, Backed}
use Rattle.travel.specs.declared.Travelled.{Travelled}
use Rattle.travel.specs.Walk.{AsWalked}

-- of what a step back and a step forward have, that of the step in a direction: 0 is a step back, all else a step forward
abbrev pub directed : {X : Type 0} → ℕ → X → X → X
directed zero back forward = back
directed (suc direction) back forward = forward

-- what a step in a direction leaves
abbrev pub gone : Core → List ℕ → ℕ → Buffers → Left Buffers
gone c program direction b = directed direction (backed c.k b) (stepped c program b)

abbrev pub Gone : Core → List ℕ → ℕ → Buffers → ℕ → Buffers → Type 0
Gone c program direction b r after = left_with r after ≡ gone c program direction b

-- the steps counted, with one more in a direction unless it was refused
abbrev pub counted_for : ℕ → ℕ → Travelled → Travelled
counted_for direction number made =
    unless_refused number
    (directed direction
    (record { forward = made.forward; back = made.back + 1 })
    (record { forward = made.forward + 1; back = made.back }))
    made

-- counts that stay below a bound with one more
pub record Countable (made : Travelled) (bound : ℕ) : Type 0 where
  pub forward : made.forward + 1 < bound
  pub back : made.back + 1 < bound

-- the buffers, and the steps counted
pub record Trip : Type 0 where
  pub buffers : Buffers
  pub made : Travelled

abbrev pub trip_of : Buffers → Travelled → Trip
trip_of b made = record { buffers = b; made = made }

-- a trip that starts: no steps counted
abbrev pub starting : Buffers → Trip
starting b = trip_of b (record { forward = 0; back = 0 })

-- a trip with a step more, of which it is known what it leaves
abbrev pub went_on : ℕ → Left Buffers → Trip → Trip
went_on direction l t = trip_of l.after (counted_for direction l.number t.made)

abbrev pub onward : Core → List ℕ → ℕ → Trip → Trip
onward c program direction t = went_on direction (gone c program direction t.buffers) t

-- some steps, one after the other: the core stays from each to the next
unfoldable pub travelled : Core → List ℕ → List ℕ → Trip → Trip
travelled c program [] t = t
travelled c program (direction ∷ directions) t = travelled c program directions (onward c program direction t)

-- files of a legal length, and a fresh journal of a version that is defined and of a legal size
pub record FreshStart (k : ℕ) (b : Buffers) : Type 0 where
  pub sized : Sized k b.files
  pub versioned : is_version (version_of b.journal) ≡ true
  pub room : is_room (version_of b.journal) (length b.journal) ≡ true
  pub fresh : b.journal ≡ fresh_journal (version_of b.journal) k (length b.journal)

-- a trip that is as many words on as its steps forward exceed those back, and has what the plain walk from a start leaves there
pub record Ahead (c : Core) (start : Buffers) (program : List ℕ) (t : Trip) : Type 0 where
  pub ahead : t.made.back ≤ t.made.forward
  pub walked : AsWalked c program start (t.made.forward - t.made.back) t.buffers

-- what travel leaves, and how many steps were accepted: that of the steps one after the other; and from a fresh start that of the plain walk
pub record Made (c : Core) (b : Buffers) (program directions : List ℕ) (after : Buffers) (made : Travelled) : Type 0 where
  pub all : trip_of after made ≡ travelled c program directions (starting b)
  pub walked : FreshStart c.k b → Ahead c b program (trip_of after made)

-- a chain of a host's own calls from a start: steps forward and back with one core and one program, each beginning where the one before it
-- ended, refused ones among them; with where it has got to, and how many were accepted
pub data Calls (c : Core) (program : List ℕ) (start : Buffers) : Trip → Type 0 where
  none : Calls c program start (starting start)
  forward : {t : Trip} {r : ℕ} {after : Buffers} → Calls c program start t → Stepped c program t.buffers r after
      → Calls c program start (went_on 1 (left_with r after) t)
  back : {t : Trip} {r : ℕ} {after : Buffers} → Calls c program start t → Backed c.k t.buffers r after
      → Calls c program start (went_on 0 (left_with r after) t)

-- demand 3: from any files of a legal length and a journal that the call made fresh, of whichever version it was told, any chain of calls ends where the plain walk does after as
-- many words as the accepted steps forward exceed those back
abbrev pub Demand3 : Type 0
Demand3 =
    (c : Core) (program : List ℕ) (s : State) (version : ℕ) (old fresh : List ℕ) (t : Trip) → Sized c.k s → Freshened c.k version old DONE fresh
    → Calls c program (buffers_of s fresh) t
    → Ahead c (buffers_of s fresh) program t

-- the call for a journal's position answers n
abbrev pub PositionIs : ℕ → List ℕ → ℕ → Type 0
PositionIs k journal n = position_answer k journal ≡ record { number = DONE; value = n }

-- of two journals the later one's position is one more
pub record OneOn (k : ℕ) (journal later : List ℕ) : Type 0 where
  pub position : ℕ
  pub before : PositionIs k journal position
  pub after : PositionIs k later (position + 1)
