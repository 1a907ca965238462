-- What a legal length is: one of the lengths, and that is a power of two from the least to the most, each proved in both directions.
-- Assumes nothing.
use Prim.Native.Nat.{ℕ, zero, suc, ◌^◌, ◌≤◌}
use mathlib.Core.Path.{◌≡◌, refl}
use mathlib.Core.Logic.{◌⊎◌, inl, inr, ◌↔◌}
use mathlib.Core.Bool.{Bool, true, false, cond, false≢true}
use mathlib.Core.List.{List, [], ◌∷◌}
use lib.Dec.{eqb}
use lib.Pow.{pow_pos, pow_mono}
use native.Mathlib.Omega.{arith}
use borrow.Author.Tests.{eqb-true, eq-eqb, ne_eqb}
use Rattle.machine.specs.Size.{most_length, lengths, is_among, is_legal, Legal}

-- a number is one of some, as the arm of a `match` tells it
abbrev pub Among : ℕ → List ℕ → Type 0
Among n [] = ⊥
Among n (m ∷ []) = n ≡ m
Among n (m ∷ l ∷ ms) = (n ≡ m) ⊎ Among n (l ∷ ms)

-- the test whether a number is one of some tells it: where it is, and where it is not
pub among_true : (n : ℕ) (ms : List ℕ) → Among n ms → is_among n ms ≡ true
among_true n [] h = absurd h
among_true n (m ∷ []) e = rw (eq-eqb n m e)
among_true n (m ∷ l ∷ ms) (inl e) = rw (eq-eqb n m e)
among_true n (m ∷ l ∷ ms) (inr h) = later (eqb n m) (is_among n (l ∷ ms)) (among_true n (l ∷ ms) h)
  where
    later : (first rest : Bool) → rest ≡ true → cond first true rest ≡ true
    later true rest e = refl
    later false rest e = e

pub among_false : (n : ℕ) (ms : List ℕ) → (Among n ms → ⊥) → is_among n ms ≡ false
among_false n [] h = refl
among_false n (m ∷ []) h = rw (ne_eqb n m h)
among_false n (m ∷ l ∷ ms) h = rw (ne_eqb n m (λ e. h (inl e))) (among_false n (l ∷ ms) (λ g. h (inr g)))

pub among_given : (n : ℕ) (ms : List ℕ) → is_among n ms ≡ true → Among n ms
among_given n [] e = false≢true e
among_given n (m ∷ []) e = first (eqb n m) refl e
  where
    first : (t : Bool) → eqb n m ≡ t → cond t true false ≡ true → n ≡ m
    first true is e = eqb-true n m is
    first false is e = absurd (false≢true e)
among_given n (m ∷ l ∷ ms) e = first (eqb n m) refl e (among_given n (l ∷ ms))
  where
    first : (t : Bool) → eqb n m ≡ t → cond t true (is_among n (l ∷ ms)) ≡ true → (is_among n (l ∷ ms) ≡ true → Among n (l ∷ ms))
        → (n ≡ m) ⊎ Among n (l ∷ ms)
    first true is e later = inl (eqb-true n m is)
    first false is e later = inr (later e)

-- a power of two with an exponent of at most 4 lies between the least length and the most
powered : (k e : ℕ) → e ≤ 4 → k ≡ 2 ^ e → Legal k
powered k e few power =
    record { exponent = e; power = power; least = rw power (pow_pos e); most = rw power (pow_mono few) }

-- a power of two that is at most the most length is among the lengths
small : (e : ℕ) → 2 ^ e ≤ most_length → is_legal (2 ^ e) ≡ true
small zero h = refl
small (suc zero) h = refl
small (suc (suc zero)) h = refl
small (suc (suc (suc zero))) h = refl
small (suc (suc (suc (suc zero)))) h = refl
small (suc (suc (suc (suc (suc e))))) h = absurd (omega (arith, h, pow_mono {i = 5} {j = suc (suc (suc (suc (suc e))))} (omega arith)))

-- a length is legal exactly where it is a power of two from the least to the most
pub legal_exactly : (k : ℕ) → is_legal k ≡ true ↔ Legal k
legal_exactly k = (λ e. power (among_given k lengths e), λ l. rw l.power (small l.exponent (rw (← l.power) l.most)))
  where
    power : Among k lengths → Legal k
    power (inl e) = powered k 0 (omega arith) e
    power (inr (inl e)) = powered k 1 (omega arith) e
    power (inr (inr (inl e))) = powered k 2 (omega arith) e
    power (inr (inr (inr (inl e)))) = powered k 3 (omega arith) e
    power (inr (inr (inr (inr e)))) = powered k 4 (omega arith) e

-- what is no power of two from the least to the most is not legal
pub illegal : (k : ℕ) → (Legal k → ⊥) → is_legal k ≡ false
illegal k none = told (is_legal k) refl
  where
    told : (t : Bool) → is_legal k ≡ t → t ≡ false
    told true e = absurd (none ((legal_exactly k).0 e))
    told false e = refl
