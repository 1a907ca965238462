-- What is found among some: a place that is theirs, or none; and from what is found the place again.
-- Assumes nothing.
use Rattle.std.proofs.Common.{◌≡◌, ℕ, ◌≤◌, ◌<◌, Option, Some, None, ◌∙◌, ap, arith}
use Rattle.std.specs.Option.{unwrap_or}
use Rattle.std.proofs.lemmas.Grind.{common_steps}
use Rattle.parts.specs.Found.{found}

-- the place comes back where none stands for the count
pub found_or : (count i : ℕ) → i ≤ count → unwrap_or (found count i) count ≡ i
found_or count i h = grind (arith, common_steps)

-- the same of a call's result, for what a caller takes from it
pub found_taken : (count i : ℕ) {o : Option ℕ} {n : ℕ} → i ≤ count → o ≡ found count i → n ≡ unwrap_or o count → n ≡ i
found_taken count i h e f = f ∙ ap (λ (o : Option ℕ). unwrap_or o count) e ∙ found_or count i h

-- what is found tells the place
pub found_once : (count i j : ℕ) → i ≤ count → j ≤ count → found count i ≡ found count j → i ≡ j
found_once count i j h k e = grind (arith, common_steps)

-- what was found is the place, which is one of theirs
pub some_found : (count n i : ℕ) → Some i ≡ found count n → (i ≡ n) × (n < count)
some_found count n i e = grind (arith, common_steps)

-- where nothing was the place is none of theirs
pub none_found : (count n : ℕ) → None ≡ found count n → count ≤ n
none_found count n e = grind (arith, common_steps)
