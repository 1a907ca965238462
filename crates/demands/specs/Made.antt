-- What a word that makes a predicate leaves, in the words of the request: bits of Pd at the lanes that it names, all others clear, and no vector changed.
use Rattle.std.specs.Prelude.{ℕ, ◌*◌, ◌<◌, ◌≡◌, ◌↔◌, ◌⊎◌, true}
use Rattle.machine.specs.Size.{predicate_bytes}
use Rattle.registers.specs.Register.{predicate}
use Rattle.registers.specs.State.{State, read}
use Rattle.lanes.specs.Lane.{width_of, bit_at, active}
use Rattle.rows.specs.declared.MadeFamily.{MadeFamily}
use Rattle.words.specs.declared.Fields.{Fields}
use Rattle.meaning.specs.Execute.{lane_count, lanes_made}

-- bit x stands at e·w for a lane e below a count
pub record AtLane (w count x : ℕ) : Type 0 where
  pub lane : ℕ
  pub below : lane < count
  pub at : x ≡ lane * w

-- what a word leaves that makes a predicate: a bit of Pd is 1 exactly where it stands at a lane that is named, and else 0; a lane of the word's size is
-- active exactly where it is below the number that is named; and the vector file is as it was
pub record Makes (f : Fields) (k : ℕ) (made : MadeFamily) (before after : State) : Type 0 where
  pub bits : (x : ℕ) → x < 8 * predicate_bytes k
      → (bit_at x (read k (predicate f.d) after) ≡ 1 ↔ AtLane (width_of f.size) (lanes_made made f.pattern (lane_count f k)) x)
      × ((bit_at x (read k (predicate f.d) after) ≡ 0) ⊎ (bit_at x (read k (predicate f.d) after) ≡ 1))
  pub lanes : (e : ℕ) → e < lane_count f k
      → active (width_of f.size) e (read k (predicate f.d) after) ≡ true ↔ e < lanes_made made f.pattern (lane_count f k)
  pub vectors : after.z ≡ before.z
