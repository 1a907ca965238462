-- Sums of elements. An element is the integer that a lane stands for; an inactive element adds nothing.
use Rattle.std.specs.Prelude.{ℕ, zero, suc, ◌+◌, ◌*◌, ◌%◌, ◌^◌, ◌≤◌, Bool, cond, List, [], ◌∷◌, length, ℤ, pos, ◌+ℤ◌}
use Rattle.parts.specs.Number.{bits_of}
use Rattle.lanes.specs.Lane.{lane, active}
use Rattle.lanes.specs.Integer.{integer}

-- f of each number from e on, n of them
abbrev pub each : {X : Type 0} → (ℕ → X) → ℕ → ℕ → List X
each f e zero = []
each f e (suc n) = f e ∷ each f (suc e) n

-- Int(Elem[operand, e, esize], unsigned): the integer of element e, which has w bytes
abbrev pub element : Bool → ℕ → List ℕ → ℕ → ℤ
element signed w operand e = integer signed (bits_of w) (lane w e operand)

-- element e of 1 to 8 bytes lies within a register
pub record ElementIn (w e : ℕ) (operand : List ℕ) : Type 0 where
  pub least : 1 ≤ w
  pub most : w ≤ 8
  pub inside : e * w + w ≤ length operand

-- what an element adds: itself if it is active, else nothing
abbrev pub counted : Bool → ℤ → ℤ
counted active z = cond active z (pos 0)

-- what element e of a register adds under the predicate that governs it
abbrev pub active_element : Bool → ℕ → List ℕ → List ℕ → ℕ → ℤ
active_element signed w predicate register e = counted (active w e predicate) (element signed w register e)

-- the exact sum of integers
abbrev pub total : List ℤ → ℤ
total [] = pos 0
total (z ∷ zs) = z +ℤ total zs

-- a sum of numbers modulo 2^D, rounding after each
abbrev pub wrapped_sum : ℕ → List ℕ → ℕ
wrapped_sum D [] = 0
wrapped_sum D (n ∷ ns) = (n + wrapped_sum D ns) % 2 ^ D
