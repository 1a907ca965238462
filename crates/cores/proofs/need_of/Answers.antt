-- `need_of` meets its contract: in each arm the row's place says what it needs.
-- Assumes nothing.
use Rattle.std.proofs.Common.{◌≡◌, ◌<◌, ◌≤◌, ℕ, arith, sym}
use mathlib.Core.Logic.{◌⊎◌, inl, inr, ⊎_elim}
use native.Mathlib.Nat.{eq-or-lt_of_le}
use Rattle.cores.proofs.Needs.{need_first, need_next, need_across, need_later, need_last}
use Rattle.cores.proofs.need_of.Goals as goal

-- a place from 23 on and below 25 is one of two
last_two : (i : ℕ) → 23 ≤ i → i < 25 → (i ≡ 23) ⊎ (i ≡ 24)
last_two i low high = ⊎_elim (λ (e : 23 ≡ i). inl (sym e)) (λ h. inr (omega arith)) (eq-or-lt_of_le low)

pub returns-in-2 : goal.returns-in-2
returns-in-2 c = sym (need_next _ c.in-2.is)

pub returns-in-3 : goal.returns-in-3
returns-in-3 c = sym (need_across _ (omega arith) (omega arith))

pub returns-in_default : goal.returns-in_default
returns-in_default c = sym (need_later _ (omega arith) (omega arith))

pub returns-in-0 : goal.returns-in-0
returns-in-0 c = sym (need_first _ (omega arith))

pub returns-in-0-2 : goal.returns-in-0-2
returns-in-0-2 c = sym (need_last _ (last_two _ (omega arith) (omega arith)))
