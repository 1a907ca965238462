-- A text that is written after a comma and a space, where its field has digits: the room for it, and that both pieces make it.
-- Assumes nothing.
use Prim.Native.Nat.{ℕ, zero, suc, ◌+◌, ◌≤◌}
use mathlib.Core.Path.{◌≡◌, refl}
use mathlib.Core.List.{List, ◌++◌}
use lib.ListN.{length}
use Rattle.parts.specs.Text.{bytes}
use Rattle.digits.specs.Put.{Put}
use Rattle.digits.proofs.Puts.{put_then}
use Rattle.operands.specs.Operands.{after_comma}

module _ (digits : ℕ) (text : List ℕ) (some : digits ≡ 0 → ⊥) where
  comma_some : after_comma digits text ≡ bytes ", " ++ text
  comma_some = go digits some
    where
      go : (digits : ℕ) → (digits ≡ 0 → ⊥) → after_comma digits text ≡ bytes ", " ++ text
      go zero h = absurd (h refl)
      go (suc digits) h = refl

  pub comma_room : (at : ℕ) {n : ℕ} → at + length (after_comma digits text) ≤ n → at + length (bytes ", " ++ text) ≤ n
  comma_room place h = rw comma_some at h

  pub comma_put : {l m n : List ℕ} {at next last : ℕ} → Put l at (bytes ", ") m next → Put m next text n last → Put l at (after_comma digits text) n last
  comma_put comma rest = rw comma_some (put_then comma rest)
