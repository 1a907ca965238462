-- Rows written one after the other: the bytes of a panel's rows, as the library flattens them.
-- Assumes nothing.
use Rattle.std.proofs.Common.{ℕ, ◌≡◌, refl, ap, List, [], ◌∷◌, ◌++◌}
use Rattle.std.specs.List.{flat_map}
use Rattle.totals.specs.Written.{joined}

pub joined_flat : (rows : List (List ℕ)) → joined rows ≡ flat_map (λ row. row) rows
joined_flat [] = refl
joined_flat (row ∷ rows) = ap (λ (l : List ℕ). row ++ l) (joined_flat rows)
