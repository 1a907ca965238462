-- What the check of both files tells: two outcomes that have the same number, and whose files are those that were lent, are the same.
-- Assumes nothing.
use Prim.Native.Nat.{ℕ}
use mathlib.Core.Path.{◌≡◌, sym, ◌∙◌, ap}
use mathlib.Core.HLevel.{is_prop→PathP}
use mathlib.Core.List.{List}
use denote.Ref.{Bor}
use denote.Struct.Props.{props}
use Rattle.std.specs.Prelude.{Result, Ok, Err, IfOk}
use Rattle.machine.specs.Refusal.{answered}
use Rattle.machine.specs.declared.refusal.Refusal.{Refusal}
use Rattle.machine.proofs.Codes.{code_tells, code_not_done}
use Rattle.machine.proofs.Told.{same_length}
use Rattle.registers.specs.State.{Sized, state}
use Rattle.registers.specs.declared.files.Files.{Files}

-- files are their length and both files
same_files : (a b : Files) → a.k.units ≡ b.k.units → a.z ≡ b.z → a.p ≡ b.p → a ≡ b
same_files a b k z p =
    λ i. record {
      k = same_length a.k b.k k i;
      z = z i;
      p = p i;
      sized = is_prop→PathP (λ j. Sized (k j) (state (z j).now (p j).now)) (λ j. hlevel props) a.sized b.sized i;
    }

-- the files that were lent, at k units
abbrev pub AreLent : ℕ → Bor (List ℕ) → Bor (List ℕ) → Files → Type 0
AreLent k z p files = (files.k.units ≡ k) × (files.z ≡ z) × (files.p ≡ p)

pub files_tell : (k : ℕ) (z p : Bor (List ℕ)) (a b : Result Files Refusal)
    → answered a ≡ answered b → IfOk a (AreLent k z p) → IfOk b (AreLent k z p) → a ≡ b
files_tell k z p (Ok x) (Ok y) e s t = ap Ok (same_files x y (s.0 ∙ sym t.0) (s.1 ∙ sym t.1) (s.2 ∙ sym t.2))
files_tell k z p (Ok x) (Err r) e s t = absurd (code_not_done r (sym e))
files_tell k z p (Err r) (Ok y) e s t = absurd (code_not_done r e)
files_tell k z p (Err q) (Err r) e s t = ap Err (code_tells q r e)
