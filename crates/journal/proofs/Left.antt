-- What a call leaves: with a refusal all as it stood, else what it makes; and a contract that says what is left tells number and buffers.
-- Assumes nothing.
use Prim.Native.Nat.{ℕ}
use mathlib.Core.Path.{◌≡◌, sym, ◌∙◌, ap}
use mathlib.Core.List.{List}
use Rattle.machine.specs.Refusal.{Test, refused}
use Rattle.machine.proofs.Tests.{unless_refused_lem}
use Rattle.journal.specs.Left.{Left, left_with, leaving}

-- what was answered, and what is left
module _ {X : Type 0} {r : ℕ} {after : X} {l : Left X} (e : left_with r after ≡ l) where
  pub number_left : r ≡ l.number
  number_left = ap (λ (x : Left X). x.number) e

  pub buffers_left : after ≡ l.after
  buffers_left = ap (λ (x : Left X). x.after) e

module _ {X : Type 0} (tests : List Test) (made stood : X) where
  -- with a refusal all is left as it stood
  pub refused_leaves : (r : ℕ) → r ≡ refused tests → (r ≡ 0 → ⊥) → left_with r stood ≡ leaving tests made stood
  refused_leaves r e h =
      ap (λ (n : ℕ). left_with n stood) e
      ∙ ap (left_with (refused tests)) (sym (unless_refused_lem (refused tests) made stood (λ z. h (e ∙ z))))

  -- with none what the call makes is left
  pub done_leaves : (r : ℕ) → r ≡ 0 → refused tests ≡ 0 → left_with r made ≡ leaving tests made stood
  done_leaves r z e = rw (z, e)

-- a contract that says what is left allows one result
pub left_determined : {X : Type 0} (l : Left X) (r q : ℕ) (a b : X) → left_with r a ≡ l → left_with q b ≡ l → (r ≡ q) × (a ≡ b)
left_determined l r q a b x y = (number_left x ∙ sym (number_left y), buffers_left x ∙ sym (buffers_left y))
