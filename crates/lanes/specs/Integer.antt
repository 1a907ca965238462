-- The integers that binary digits stand for: two's complement, at any number of digits.
use Rattle.std.specs.Prelude.{ℕ, suc, ◌-◌, ◌*◌, ◌%◌, ◌^◌, ◌<◌, ◌≤◌, Bool, true, false, cond, ℤ, pos, negsuc, nat_le}
use Rattle.std.proofs.Math.IntN.{sub_ℕ}
use Rattle.parts.specs.Part.{both}
use Rattle.parts.specs.Number.{bits_of}

-- whether the highest of D digits is set
abbrev pub is_negative : ℕ → ℕ → Bool
is_negative D n = nat_le (2 ^ D) (2 * n)

-- Int(x, unsigned): the integer that D digits stand for
abbrev pub integer : Bool → ℕ → ℕ → ℤ
integer signed D n = cond (both signed (is_negative D n)) (sub_ℕ n (2 ^ D)) (pos n)

-- z<D-1:0>: the low D digits of an integer, which is the integer modulo 2^D
abbrev pub residue : ℕ → ℤ → ℕ
residue D (pos n) = n % 2 ^ D
residue D (negsuc n) = 2 ^ D - suc (n % 2 ^ D)

-- an integer that D digits can stand for
abbrev pub FitsAt : Bool → ℕ → ℤ → Type 0
FitsAt true D (pos n) = 2 * n < 2 ^ D
FitsAt true D (negsuc n) = 2 * suc n ≤ 2 ^ D
FitsAt false D (pos n) = n < 2 ^ D
FitsAt false D (negsuc n) = ⊥

-- a lane of 1 to 8 bytes, and a number of its digits
pub record LaneNumber (w n : ℕ) : Type 0 where
  pub least : 1 ≤ w
  pub most : w ≤ 8
  pub digits : n < 2 ^ bits_of w
