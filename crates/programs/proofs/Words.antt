-- The words of a program: a word of bytes has 32 binary digits, and what stands at a place goes by the refusal alone.
-- Assumes nothing.
use Prim.Native.Nat.{ℕ, zero, suc, ◌*◌, ◌^◌, ◌<◌}
use mathlib.Core.Path.{◌≡◌, refl, sym, ◌∙◌, ap}
use mathlib.Core.List.{List}
use Rattle.machine.specs.Size.{word_bytes}
use Rattle.parts.proofs.Numbers.{number_below}
use Rattle.parts.specs.Number.{AreBytes}
use Rattle.programs.specs.Word.{Next, word_at, word_found}

-- a word is below 2^32
pub word_lt : (program : List ℕ) (i : ℕ) → AreBytes program → word_at program i < 2 ^ 32
word_lt program i h = number_below (i * word_bytes) word_bytes program h

-- with a refusal there is no word, and the place stays
pub found_refused : (n word at : ℕ) → (n ≡ 0 → ⊥) → word_found n word at ≡ record { number = n; word = 0; at = at }
found_refused zero word at h = absurd (h refl)
found_refused (suc n) word at h = refl

-- none is found with a refusal, and what is found goes by its number
pub none_found : (r m word at : ℕ) → r ≡ m → (r ≡ 0 → ⊥) → record { number = r; word = 0; at = at } ≡ word_found m word at
none_found r m word at e h = sym (found_refused r word at h) ∙ ap (λ (n : ℕ). word_found n word at) e

pub found_as : (next : Next) (n m word at : ℕ) → next ≡ word_found n word at → next.number ≡ m → next ≡ word_found m word at
found_as next n m word at e h = e ∙ ap (λ (i : ℕ). word_found i word at) (sym (ap (λ (w : Next). w.number) e) ∙ h)
