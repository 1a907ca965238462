-- Sums of ranges modulo 2^D, of whatever each number adds: of no number and of one, of a range that is split anywhere, and of one number more.
-- Assumes nothing.
use Rattle.std.proofs.Common.{◌≡◌, ℕ, suc, ◌+◌, ◌-◌, ◌%◌, ◌^◌, ◌≤◌, ℤ, sym, ap, ◌∙◌, arith}
use native.Mathlib.Nat.{sub_self, sub-zero}
use lib.IntN.{+ℤ_idr}
use Rattle.lanes.specs.Integer.{residue}
use Rattle.lanes.specs.Sum.{each, total}
use Rattle.lanes.proofs.Residues.{residue_sum}
use Rattle.lanes.proofs.Sums.{split_sum_lem}

-- the sum of what each number from a up to but without b adds
abbrev pub range_sum : ℕ → (ℕ → ℤ) → ℕ → ℕ → ℕ
range_sum D adds a b = residue D (total (each adds a (b - a)))

module _ (D : ℕ) (adds : ℕ → ℤ) where
  abbrev sum : ℕ → ℕ → ℕ
  sum = range_sum D adds

  -- no number adds up to zero
  pub sum_none : (a : ℕ) → sum a a ≡ residue D (total (each adds a 0))
  sum_none a = rw (sub_self a)

  -- a range that is split: the sum modulo 2^D of its parts' sums
  pub sum_split : (a m b : ℕ) → a ≤ m → m ≤ b → sum a b ≡ (sum a m + sum m b) % 2 ^ D
  sum_split a m b h k =
      ap (λ (n : ℕ). residue D (total (each adds a n))) whole
      ∙ ap (residue D) (split_sum_lem adds a (m - a) (b - m))
      ∙ residue_sum D (total (each adds a (m - a))) (total (each adds (a + (m - a)) (b - m)))
      ∙ ap (λ (i : ℕ). (sum a m + residue D (total (each adds i (b - m)))) % 2 ^ D) there
    where
      whole : b - a ≡ (m - a) + (b - m)
      whole = omega arith

      there : a + (m - a) ≡ m
      there = omega arith

  -- the sum of a range of one number
  pub sum_one : (a : ℕ) → sum a (a + 1) ≡ residue D (adds a)
  sum_one a = ap (λ (n : ℕ). residue D (total (each adds a n))) one ∙ ap (residue D) (+ℤ_idr (adds a))
    where
      one : a + 1 - a ≡ 1
      one = omega arith

  -- the sum of a range with one number more
  pub sum_next : (a b : ℕ) → a ≤ b → sum a (b + 1) ≡ (sum a b + residue D (adds b)) % 2 ^ D
  sum_next a b h = sum_split a b (b + 1) h (omega arith) ∙ ap (λ (n : ℕ). (sum a b + n) % 2 ^ D) (sum_one b)

  -- the sum of the numbers below n, with one number more
  pub sum_suc : (n : ℕ) → residue D (total (each adds 0 (suc n))) ≡ (residue D (total (each adds 0 n)) + residue D (adds n)) % 2 ^ D
  sum_suc n =
      sym (ap (λ (k : ℕ). residue D (total (each adds 0 k))) more)
      ∙ sum_next 0 n (omega arith)
      ∙ ap (λ (k : ℕ). (residue D (total (each adds 0 k)) + residue D (adds n)) % 2 ^ D) (sub-zero n)
    where
      more : n + 1 - 0 ≡ suc n
      more = omega arith
