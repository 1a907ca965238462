-- A register's number in an entry: each register that there is has its own, and each number names the register that has it.
-- Assumes nothing.
use Prim.Native.Nat.{ℕ, ◌+◌, ◌-◌, ◌≤◌, ◌<◌}
use mathlib.Core.Path.{◌≡◌, refl, ◌∙◌, ap}
use mathlib.Core.Bool.{Bool, true, false}
use native.Mathlib.Nat.{add-sub_cancel_left}
use native.Mathlib.Omega.{arith}
use lib.Dec.{ltb}
use borrow.Author.Tests.{ltb-true, ltb-false, lt-ltb, le-ltb}
use Rattle.machine.specs.Size.{vectors, predicates}
use Rattle.registers.specs.declared.Kind.{Kind}
use Rattle.registers.specs.declared.Kind.TheVariants.{Vector, Predicate}
use Rattle.registers.specs.Register.{Register, vector, predicate, IsRegister, register_count, entry_number, numbered}

-- the numbers of the vectors, and those of the predicates behind them
pub vector_number : (n : ℕ) → entry_number (vector n) ≡ n
unfolding entry_number
vector_number n = refl

pub predicate_number : (n : ℕ) → entry_number (predicate n) ≡ vectors + n
unfolding entry_number
predicate_number n = refl

-- a number of a vector names it, and a number behind the vectors a predicate
pub vector_numbered : (n : ℕ) → n < vectors → numbered n ≡ vector n
unfolding numbered
vector_numbered n h = rw (lt-ltb n vectors h)

pub predicate_numbered : (n : ℕ) → numbered (vectors + n) ≡ predicate n
unfolding numbered
predicate_numbered n = rw (le-ltb (vectors + n) vectors (omega arith), add-sub_cancel_left vectors n)

-- every number behind the vectors is a predicate's
pub behind_vectors : (n : ℕ) → vectors ≤ n → (numbered n).kind ≡ Predicate
unfolding numbered
behind_vectors n h = rw (le-ltb n vectors h)

-- and the predicate's number is how far behind
pub behind_number : (n : ℕ) → vectors ≤ n → (numbered n).number ≡ n - vectors
unfolding numbered
behind_number n h = rw (le-ltb n vectors h)

-- there and back
pub numbered_number : (r : Register) → IsRegister r → numbered (entry_number r) ≡ r
numbered_number r is = by r.kind r.number is
  where
    by : (kind : Kind) (n : ℕ) → n < register_count kind → numbered (entry_number (record { kind = kind; number = n })) ≡ record { kind = kind; number = n }
    by Vector n h = ap numbered (vector_number n) ∙ vector_numbered n h
    by Predicate n h = ap numbered (predicate_number n) ∙ predicate_numbered n

-- a number is a vector's, or that of a predicate behind the vectors
either : (P : ℕ → Type 0) → ((n : ℕ) → n < vectors → P n) → ((n : ℕ) → P (vectors + n)) → (n : ℕ) → P n
either P a b n = go (ltb n vectors) refl
  where
    go : (t : Bool) → ltb n vectors ≡ t → P n
    go true h = a n (ltb-true n vectors h)
    go false h =
        let split : vectors + (n - vectors) ≡ n = omega (arith, ltb-false n vectors h) in
        rw split at (b (n - vectors))

pub number_numbered : (n : ℕ) → entry_number (numbered n) ≡ n
number_numbered =
    either (λ n. entry_number (numbered n) ≡ n) (λ n h. ap entry_number (vector_numbered n h) ∙ vector_number n)
    (λ n. ap entry_number (predicate_numbered n) ∙ predicate_number n)

-- the numbers of the registers that there are, are those below all their counts
pub numbered_is : (n : ℕ) → n < vectors + predicates → IsRegister (numbered n)
numbered_is =
    either (λ n. n < vectors + predicates → IsRegister (numbered n)) (λ n h l. rw (vector_numbered n h) h)
    (λ n l. rw (predicate_numbered n) (omega arith))

pub number_below : (r : Register) → IsRegister r → entry_number r < vectors + predicates
number_below r is = by r.kind r.number is
  where
    by : (kind : Kind) (n : ℕ) → n < register_count kind → entry_number (record { kind = kind; number = n }) < vectors + predicates
    by Vector n h = rw (vector_number n) (omega arith)
    by Predicate n h = rw (predicate_number n) (omega arith)

-- computed: Z0 is 0, Z31 is 31, P0 is 32, P15 is 47, and back
pub first_vector : (entry_number (vector 0) ≡ 0) × (numbered 0 ≡ vector 0)
unfolding entry_number numbered
first_vector = (refl, refl)

pub last_vector : (entry_number (vector 31) ≡ 31) × (numbered 31 ≡ vector 31)
unfolding entry_number numbered
last_vector = (refl, refl)

pub first_predicate : (entry_number (predicate 0) ≡ 32) × (numbered 32 ≡ predicate 0)
unfolding entry_number numbered
first_predicate = (refl, refl)

pub last_predicate : (entry_number (predicate 15) ≡ 47) × (numbered 47 ≡ predicate 15)
unfolding entry_number numbered
last_predicate = (refl, refl)
