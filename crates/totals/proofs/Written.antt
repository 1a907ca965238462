-- A panel that is to be written: its tests in their order, each refusal exactly in its case, and what is written where none is.
-- Assumes nothing.
use Prim.Native.Nat.{ℕ, suc, ◌≤◌}
use mathlib.Core.Path.{◌≡◌, refl, sym, ◌∙◌}
use mathlib.Core.Bool.{true, cond, not}
use mathlib.Core.Logic.{◌↔◌}
use mathlib.Core.List.{List}
use lib.Dec.{ltb}
use lib.ListN.{length}
use borrow.Author.Tests.{le-ltb}
use Rattle.parts.specs.Part.{laid}
use Rattle.std.specs.Prelude.{Result}
use Rattle.machine.specs.declared.refusal.Refusal.{Refusal}
use Rattle.machine.proofs.Codes.{answered_tells}
use Rattle.machine.specs.Refusal.{answered, DONE, OUT, RANGE, Test, First, in_order, files_tests, refused}
use Rattle.machine.proofs.Tests.{first_exactly, first_after, checked, kept, left}
use Rattle.totals.specs.Calls.{in_range, panel_refused, panel_answer}
use Rattle.totals.specs.Written.{panel_bytes, joined, panel_written_tests, panel_written_refused, panel_laid, PanelWritten}

pub panel_written_in_order : (k : ℕ) (z p : List ℕ) (source predicate size n : ℕ) → in_order (panel_written_tests k z p source predicate size n) ≡ true
panel_written_in_order k z p source predicate size n = refl

pub panel_written_exactly : (k : ℕ) (z p : List ℕ) (source predicate size n m : ℕ)
    → panel_written_refused k z p source predicate size n ≡ suc m ↔ First (panel_written_tests k z p source predicate size n) (suc m)
panel_written_exactly k z p source predicate size n m = first_exactly (panel_written_tests k z p source predicate size n) m

-- the numbers that a panel is answered with, and the output, are the same, whatever numbers they are
pub panel_numbers_determined : (k : ℕ) (z p : List ℕ) (source predicate size : ℕ) (out : List ℕ) (r q : ℕ) (a b : List ℕ)
    → PanelWritten k z p source predicate size out r a → PanelWritten k z p source predicate size out q b → (r ≡ q) × (a ≡ b)
panel_numbers_determined k z p source predicate size out r q a b x y = (x.answered ∙ sym y.answered, x.bytes ∙ sym y.bytes)

-- two results that the contract of a panel that is written allows are the same
pub panel_written_determined : (k : ℕ) (z p : List ℕ) (source predicate size : ℕ) (out : List ℕ) (r q : Result Unit Refusal) (a b : List ℕ)
    → PanelWritten k z p source predicate size out (answered r) a → PanelWritten k z p source predicate size out (answered q) b → (r ≡ q) × (a ≡ b)
panel_written_determined k z p source predicate size out r q a b x y =
    let same = panel_numbers_determined k z p source predicate size out (answered r) (answered q) a b x y in (answered_tells r q same.0, same.1)

module _ (k : ℕ) (z p : List ℕ) (source predicate size : ℕ) (out : List ℕ) where
  abbrev files : List Test
  files = files_tests k (length z) (length p)

  abbrev range : ℕ
  range = cond (not (in_range source predicate size)) RANGE DONE

  -- a refusal of the files leaves the output as it stood
  pub files_refuse : (r : ℕ) → r ≡ refused files → (r ≡ DONE → ⊥) → PanelWritten k z p source predicate size out r out
  files_refuse r e h =
      let number = (checked files tt refl e).refuses h in
      record { answered = number; bytes = kept _ r (panel_laid k z p source predicate size out) out number h }

  -- with room for it, what is written is the panel that the panel's own call answers
  pub panel_laid_lem : refused files ≡ DONE → panel_bytes ≤ length out → (r : ℕ) → r ≡ panel_refused k z p source predicate size
      → (rows : List (List ℕ)) (after : List ℕ) → r ≡ DONE → rows ≡ panel_answer k z p source predicate size → after ≡ laid (joined rows) out
      → PanelWritten k z p source predicate size out DONE after
  panel_laid_lem right room r answers rows after done is e =
      let own : panel_refused k z p source predicate size ≡ DONE = sym answers ∙ done in
      let none =
      first_after files (cond (ltb (length out) panel_bytes) OUT range) tt right
      ∙ rw (le-ltb _ _ room) (sym (first_after files range tt right) ∙ own)
      in
      record { answered = sym none; bytes = e ∙ rw (is, own) (left _ (panel_laid k z p source predicate size out) out none) }
