-- Parts that were lent and have come back: what the whole then holds.
-- Assumes nothing.
use Prim.Native.Nat.{ℕ, ◌-◌, ◌≤◌}
use mathlib.Core.Path.{◌≡◌, sym, ◌∙◌, ap}
use mathlib.Core.List.{List, ◌++◌, append_assoc}
use lib.ListN.{take, drop}
use borrow.Rule.Slice.PartMut.{put_mid, Post-is}

-- a part from a to e, given back with other elements
pub put_part : (a e : ℕ) (xs ys : List ℕ) → a ≤ e → put_mid a (e - a) xs ys ≡ take a xs ++ ys ++ drop e xs
put_part a e xs ys h =
    ap (λ (l : List ℕ). take a xs ++ (ys ++ l)) (Post-is a e xs h) ∙ sym (append_assoc (take a xs) ys (drop e xs))
