-- What `extend` answers, read at its sign: the very integer that the lane stands for.
-- Assumes nothing.
use Rattle.std.proofs.Common.{◌≡◌, ℕ, Bool, ap, ◌∙◌, arith}
use Rattle.parts.specs.Number.{bits_of}
use Rattle.lanes.specs.Integer.{integer, residue, LaneNumber}
use Rattle.lanes.proofs.Residues.{extension}

-- an answer that the contract of `extend` allows
pub extend_keeps : (signed : Bool) (w n r : ℕ) → LaneNumber w n → r ≡ residue 64 (integer signed (bits_of w) n) → integer signed 64 r ≡ integer signed (bits_of w) n
extend_keeps signed w n r lane answered =
    ap (integer signed 64) answered ∙ extension signed (bits_of w) 64 n (omega (arith, lane.most)) lane.digits
