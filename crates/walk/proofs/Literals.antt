-- What the program's counts and what a failed read leaves are, in bytes that are written out: what holds, and what is shut out.
-- Assumes nothing.
use Rattle.std.proofs.Common.{zero, suc, [], ◌∷◌, Some, refl, arith}
use Rattle.walk.specs.Counts.{IsPrefixLen, TakenInFront}

-- two of three bytes, and four of three
pub prefix_literal : IsPrefixLen 2 (7 ∷ 8 ∷ 9 ∷ [])
prefix_literal = (omega arith, refl)

pub no_prefix_literal : IsPrefixLen 4 (7 ∷ 8 ∷ 9 ∷ []) → ⊥
no_prefix_literal p = omega (arith, p.0)

-- of five bytes two were taken, and they stand at the front
pub taken_literal : TakenInFront (Some (1 ∷ 2 ∷ 3 ∷ 4 ∷ 5 ∷ [])) (Some (3 ∷ 4 ∷ 5 ∷ [])) (1 ∷ 2 ∷ 0 ∷ 0 ∷ [])
taken_literal = (2, omega arith, refl)

-- two were taken, and the second does not stand there: it is lost
pub lost_literal : TakenInFront (Some (1 ∷ 2 ∷ 3 ∷ [])) (Some (3 ∷ [])) (1 ∷ 0 ∷ []) → ⊥
lost_literal (zero, h, e) = cc
lost_literal (suc zero, h, e) = cc
lost_literal (suc (suc zero), h, e) = cc
lost_literal (suc (suc (suc n)), h, e) = omega (arith, h)
