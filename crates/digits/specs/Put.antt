-- What writing a piece at a place leaves, and where it ends.
use Rattle.std.specs.Prelude.{◌≡◌, ℕ, ◌+◌, List, length}
use Rattle.std.proofs.lemmas.List.Edits.{sets}

-- a piece written at a place, and the place after it
pub record Put (old : List ℕ) (at : ℕ) (piece new : List ℕ) (next : ℕ) : Type 0 where
  pub bytes : new ≡ sets old at piece
  pub after : next ≡ at + length piece
