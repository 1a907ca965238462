-- Bytes at the front of a register with zeros above them: their length, and padding twice.
-- Assumes nothing.
use Prim.Native.Nat.{ℕ, ◌+◌, ◌-◌, ◌≤◌}
use mathlib.Core.Path.{◌≡◌, ◌∙◌, ap}
use mathlib.Core.List.{List, ◌++◌, append_assoc, append-nil}
use native.Mathlib.Nat.{sub_self}
use native.Mathlib.Omega.{arith}
use lib.ListN.{length, replicate, length-append, length-replicate, replicate-append-replicate}
use Rattle.registers.specs.Register.{padded}

-- padded bytes are as many as were asked for
pub length_padded : (n : ℕ) (x : List ℕ) → length x ≤ n → length (padded n x) ≡ n
length_padded n x h = length-append x (replicate (n - length x) 0) ∙ omega (arith, length-replicate {A = ℕ} (n - length x) 0)

-- padding what is padded already
pub padded_padded : (m n : ℕ) (x : List ℕ) → length x ≤ m → m ≤ n → padded n (padded m x) ≡ padded n x
padded_padded m n x h l =
    ap (λ (k : ℕ). padded m x ++ replicate (n - k) 0) (length_padded m x h)
    ∙ append_assoc x (replicate (m - length x) 0) (replicate (n - m) 0)
    ∙ ap (λ (zeros : List ℕ). x ++ zeros) (replicate-append-replicate (m - length x) (n - m) 0 ∙ ap (λ (k : ℕ). replicate k 0) rest)
  where
    rest : m - length x + (n - m) ≡ n - length x
    rest = omega arith

-- nothing to pad
pub padded_full : (n : ℕ) (x : List ℕ) → length x ≡ n → padded n x ≡ x
padded_full n x h = rw (h, sub_self n) (append-nil x)
