-- What the contracts of the program's counts cite.
use Rattle.std.specs.Prelude.{◌≡◌, ℕ, ◌≤◌, List, length, take, Option}
use Rattle.std.specs.Io.KnownBytes.{Consumes}

-- the first n of the bytes are in bounds, and are n bytes
abbrev pub IsPrefixLen : ℕ → List ℕ → Type 0
IsPrefixLen n xs = (n ≤ length xs) × (n ≡ length (take n xs))

-- what was taken from a reader stands at the front of the bytes, so that nothing of it is lost
abbrev pub TakenInFront : Option (List ℕ) → Option (List ℕ) → List ℕ → Type 0
TakenInFront before after xs = (count : ℕ) × (count ≤ length xs) × Consumes before after (take count xs)
