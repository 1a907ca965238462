-- Sums of a register's active lanes modulo 2^64.
use Rattle.std.specs.Prelude.{◌≡◌, ℕ, ◌+◌, ◌-◌, ◌*◌, ◌^◌, ◌<◌, ◌≤◌, Bool, true, List, length}
use Rattle.parts.specs.Part.{part}
use Rattle.lanes.specs.Lane.{active, bit_at}
use Rattle.lanes.specs.Integer.{residue}
use Rattle.lanes.specs.Sum.{each, active_element, total}

-- the sum of the active lanes from a up to but without b
abbrev pub lane_sum : Bool → ℕ → ℕ → ℕ → List ℕ → List ℕ → ℕ
lane_sum signed w a b predicate register = residue 64 (total (each (active_element signed w predicate register) a (b - a)))

-- a register and the predicate that governs it
pub record Governed : Type 0 where
  pub predicate : List ℕ
  pub register : List ℕ

-- two registers with their predicates agree at lane i: the predicates at its bit, and the registers at its bytes if it is active
abbrev pub AgreeAt : ℕ → ℕ → Governed → Governed → Type 0
AgreeAt w i a b =
    (bit_at (i * w) a.predicate ≡ bit_at (i * w) b.predicate)
    × (active w i a.predicate ≡ true → part (i * w) w a.register ≡ part (i * w) w b.register)

-- lanes of 1 to 8 bytes, and a predicate with a bit for every byte of the register
pub record Governs (w : ℕ) (predicate register : List ℕ) : Type 0 where
  pub least : 1 ≤ w
  pub most : w ≤ 8
  pub covers : length register ≤ 8 * length predicate
  pub bits : 8 * length predicate < 2 ^ 64

-- lanes of 1 to 8 bytes, of which a register has at least count
pub record EveryLane (w count : ℕ) (register : List ℕ) : Type 0 where
  pub least : 1 ≤ w
  pub most : w ≤ 8
  pub inside : count * w ≤ length register

-- lane e lies within a register that a predicate governs
pub record GovernedLane (w e : ℕ) (predicate register : List ℕ) : Type 0 where
  pub governs : Governs w predicate register
  pub inside : e * w + w ≤ length register

-- the lanes from a up to but without b lie within a register that a predicate governs
pub record GovernedRange (w a b : ℕ) (predicate register : List ℕ) : Type 0 where
  pub governs : Governs w predicate register
  pub ordered : a ≤ b
  pub inside : b * w ≤ length register
