-- How the start of a trial grows: one byte more of the rule, and no byte more at the end.
-- Assumes nothing.
use Prim.Native.Nat.{ℕ, suc, ◌+◌, ◌-◌, ◌%◌, ◌<◌, ◌≤◌}
use mathlib.Core.Path.{◌≡◌}
use mathlib.Core.List.{List, [], ◌∷◌, ◌++◌, append_assoc, append-nil}
use native.Mathlib.Omega.{arith}
use lib.ListN.{length, take, set}
use lib.Seq.{take-suc-set, take_all}
use Rattle.fillings.specs.Filled.{next_value, filled_from}

-- one byte more is written: what is written grows by the first of the bytes still to write
pub filled_next : (l : List ℕ) (cut i n value : ℕ) → i < n → length l ≡ n
    → take (i + 1) (set l i (value % cut)) ++ filled_from cut (n - (i + 1)) (next_value value) ≡ take i l ++ filled_from cut (n - i) value
unfolding filled_from
filled_next l cut i n value h k =
    rw (next, take-suc-set l i (value % cut) inside, more)
    (append_assoc (take i l) (value % cut ∷ []) (filled_from cut (n - suc i) (next_value value)))
  where
    next : i + 1 ≡ suc i
    next = omega arith

    inside : i < length l
    inside = omega arith

    more : n - i ≡ suc (n - suc i)
    more = omega arith

-- with every byte written none is left to write
pub filled_all : (l : List ℕ) (cut i n value : ℕ) → length l ≡ n → n ≤ i → take i l ++ filled_from cut (n - i) value ≡ l
unfolding filled_from
filled_all l cut i n value h k = rw (none, take_all i l (omega arith)) (append-nil l)
  where
    none : n - i ≡ 0
    none = omega arith
