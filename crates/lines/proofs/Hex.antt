-- Bytes in hex: two digits for each, and one byte more, written before the others.
-- Assumes nothing.
use mathlib.Core.Path.{◌≡◌, refl}
use mathlib.Core.List.{List, [], ◌∷◌, ◌++◌}
use Prim.Native.Nat.{ℕ, zero, suc, ◌-◌, ◌*◌, ◌≤◌, ◌<◌}
use native.Mathlib.Omega.{arith}
use lib.ListN.{length, length-append, drop, get_or}
use lib.Seq.{drop-cons}
use Rattle.digits.specs.Digits.{digits_in}
use Rattle.digits.proofs.Decimals.{digits_length}
use Rattle.lines.specs.Line.{sixteen, byte_hex_digits, hex_of}

pub hex_length : (l : List ℕ) → length (hex_of l) ≡ byte_hex_digits * length l
unfolding hex_of
hex_length [] = refl
hex_length (b ∷ l) = rw length-append (omega (arith, hex_length l, digits_length sixteen byte_hex_digits b))

-- the byte before a place in hex, after those from the place on
pub hex_next : (l : List ℕ) (i : ℕ) → 0 < i → i ≤ length l
    → hex_of (drop (i - 1) l) ≡ hex_of (drop i l) ++ digits_in sixteen byte_hex_digits (get_or l (i - 1) 0)
unfolding hex_of
hex_next l zero h k = absurd (omega arith)
hex_next l (suc j) h k =
    let before : suc j - 1 ≡ j = omega arith in
    rw (before, drop-cons l j 0 k)
