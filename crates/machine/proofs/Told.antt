-- What the check of a length tells: two outcomes that have the same number, and whose lengths have the units that were told, are the same.
-- Assumes nothing.
use Prim.Native.Nat.{ℕ, ◌≤◌}
use mathlib.Core.Path.{◌≡◌, sym, ◌∙◌, ap}
use mathlib.Core.HLevel.{is_prop→PathP}
use native.Mathlib.Bridge.{le_prop}
use Rattle.std.specs.Prelude.{Result, Ok, Err, IfOk}
use Rattle.machine.specs.Size.{most_length}
use Rattle.machine.specs.Refusal.{answered}
use Rattle.machine.specs.declared.Length.{Length}
use Rattle.machine.specs.declared.refusal.Refusal.{Refusal}
use Rattle.machine.proofs.Codes.{code_tells, code_not_done}

-- a length is its units
abbrev pub same_length : (a b : Length) → a.units ≡ b.units → a ≡ b
same_length a b e = λ i. record { units = e i; within = is_prop→PathP (λ j. e j ≤ most_length) (λ j. le_prop) a.within b.within i }

-- a length of so many units
abbrev pub IsOf : ℕ → Length → Type 0
IsOf k length = length.units ≡ k

pub length_tells : (k : ℕ) (a b : Result Length Refusal) → answered a ≡ answered b → IfOk a (IsOf k) → IfOk b (IsOf k) → a ≡ b
length_tells k (Ok x) (Ok y) e s t = ap Ok (same_length x y (s ∙ sym t))
length_tells k (Ok x) (Err r) e s t = absurd (code_not_done r (sym e))
length_tells k (Err r) (Ok y) e s t = absurd (code_not_done r e)
length_tells k (Err q) (Err r) e s t = ap Err (code_tells q r e)
