-- The answers of a step and of a step back: tests in the paper's order, each refusal exactly where its test holds and none before it does, and
-- contracts that allow one result.
-- Assumes nothing.
use Prim.Native.Nat.{ℕ, suc}
use mathlib.Core.Path.{◌≡◌, refl}
use mathlib.Core.Bool.{true}
use mathlib.Core.Logic.{◌↔◌}
use mathlib.Core.List.{List}
use Rattle.std.specs.Prelude.{Result}
use Rattle.machine.specs.Refusal.{answered, First, in_order}
use Rattle.machine.specs.declared.refusal.Refusal.{Refusal}
use Rattle.machine.proofs.Codes.{answered_tells}
use Rattle.machine.proofs.Tests.{first_exactly}
use Rattle.journal.specs.Left.{Core, Buffers}
use Rattle.journal.specs.Calls.{back_tests}
use Rattle.journal.proofs.Left.{left_determined}
use Rattle.steps.specs.Calls.{step_tests, stepped, backed, Stepped, Backed}

pub step_in_order : (c : Core) (program : List ℕ) (b : Buffers) → in_order (step_tests c program b) ≡ true
step_in_order c program b = refl

pub back_in_order : (k : ℕ) (b : Buffers) → in_order (back_tests k b) ≡ true
back_in_order k b = refl

pub step_exactly : (c : Core) (program : List ℕ) (b : Buffers) (n : ℕ) → (stepped c program b).number ≡ suc n ↔ First (step_tests c program b) (suc n)
unfolding stepped
step_exactly c program b n = first_exactly (step_tests c program b) n

pub back_exactly : (k : ℕ) (b : Buffers) (n : ℕ) → (backed k b).number ≡ suc n ↔ First (back_tests k b) (suc n)
unfolding backed
back_exactly k b n = first_exactly (back_tests k b) n

-- the numbers that a step is answered with, and what it leaves, are the same, whatever numbers they are
pub stepped_determined : (c : Core) (program : List ℕ) (b : Buffers) (r q : ℕ) (after other : Buffers) → Stepped c program b r after → Stepped c program b q other
    → (r ≡ q) × (after ≡ other)
stepped_determined c program b r q after other x y = left_determined (stepped c program b) r q after other x.leaves y.leaves

-- two results of a call are the same
pub step_determined : (c : Core) (program : List ℕ) (b : Buffers) (r q : Result Unit Refusal) (after other : Buffers)
    → Stepped c program b (answered r) after → Stepped c program b (answered q) other → (r ≡ q) × (after ≡ other)
step_determined c program b r q after other x y =
    let same = stepped_determined c program b (answered r) (answered q) after other x y in (answered_tells r q same.0, same.1)

-- the numbers that a step back is answered with, and what it leaves, are the same, whatever numbers they are
pub backed_determined : (k : ℕ) (b : Buffers) (r q : ℕ) (after other : Buffers) → Backed k b r after → Backed k b q other → (r ≡ q) × (after ≡ other)
backed_determined k b r q after other x y = left_determined (backed k b) r q after other x.leaves y.leaves

pub back_determined : (k : ℕ) (b : Buffers) (r q : Result Unit Refusal) (after other : Buffers)
    → Backed k b (answered r) after → Backed k b (answered q) other → (r ≡ q) × (after ≡ other)
back_determined k b r q after other x y =
    let same = backed_determined k b (answered r) (answered q) after other x y in (answered_tells r q same.0, same.1)
