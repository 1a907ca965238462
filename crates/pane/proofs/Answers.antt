-- Each public call's contract allows one result.
-- Assumes nothing.
use Prim.Native.Nat.{ℕ}
use mathlib.Core.Path.{◌≡◌, sym, ◌∙◌}
use mathlib.Core.List.{List}
use denote.Ref.{Bor}
use Rattle.std.specs.Prelude.{Result, IfOk}
use Rattle.machine.specs.declared.refusal.Refusal.{Refusal}
use Rattle.machine.specs.Refusal.{answered}
use Rattle.machine.proofs.Tests.{one_result}
use Rattle.registers.specs.declared.Kind.{Kind}
use Rattle.registers.specs.declared.files.Files.{Files}
use Rattle.registers.proofs.Told.{AreLent, files_tell}
use Rattle.pane.specs.Drawn.{register_refused, IsPart}

-- the numbers of a register's refusal are the same
pub register_refused_determined : (k : ℕ) (z p : List ℕ) (kind : Kind) (r a b : ℕ) → a ≡ register_refused k z p kind r → b ≡ register_refused k z p kind r → a ≡ b
register_refused_determined k z p kind r = one_result (register_refused k z p kind r)

pub register_refusal_determined : (k : ℕ) (z p : Bor (List ℕ)) (kind : Kind) (r : ℕ) (a b : Result Files Refusal)
    → answered a ≡ register_refused k z.now p.now kind r
    → IfOk a (AreLent k z p)
    → answered b ≡ register_refused k z.now p.now kind r
    → IfOk b (AreLent k z p)
    → a ≡ b
register_refusal_determined k z p kind r a b s x t y = files_tell k z p a b (s ∙ sym t) x y

-- two parts that the contract of `register` allows have the same bytes, at the same place in memory
pub register_determined : (k : ℕ) (z p : Bor (List ℕ)) (kind : Kind) (r : ℕ) (a b : Bor (List ℕ)) → IsPart k z p kind r a → IsPart k z p kind r b
    → (a.now ≡ b.now) × (a.ref_ptr ≡ b.ref_ptr)
register_determined k z p kind r a b s t = (one_result _ _ _ s.0 t.0, one_result _ _ _ s.1 t.1)
