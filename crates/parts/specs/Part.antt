-- Parts of a list: read, replaced and compared.
use Rattle.std.specs.Prelude.{ℕ, ◌+◌, ◌≤◌, ◌<◌, ◌⊎◌, Bool, true, false, List, [], ◌∷◌, ◌++◌, eqb, length, take, drop}

-- both of two tests
abbrev pub both : Bool → Bool → Bool
both true b = b
both false b = false

-- n elements from a place on
abbrev pub part : ℕ → ℕ → List ℕ → List ℕ
part at n l = take n (drop at l)

-- a list with others in place of the n from a place on
abbrev pub with_part : ℕ → ℕ → List ℕ → List ℕ → List ℕ
with_part at n new l = take at l ++ new ++ drop (at + n) l

-- a list with others laid over its front
abbrev pub laid : List ℕ → List ℕ → List ℕ
laid piece l = with_part 0 (length piece) piece l

-- two lists of bytes are the same
abbrev pub same_bytes : List ℕ → List ℕ → Bool
same_bytes [] [] = true
same_bytes [] (y ∷ ys) = false
same_bytes (x ∷ xs) [] = false
same_bytes (x ∷ xs) (y ∷ ys) = both (eqb x y) (same_bytes xs ys)

-- a place outside n elements from a place on
abbrev pub Outside : ℕ → ℕ → ℕ → Type 0
Outside at n i = (i < at) ⊎ (at + n ≤ i)
