-- What the readers find: what follows a space, the bytes of a number, and the place of a letter.
-- Assumes nothing.
use mathlib.Core.Path.{◌≡◌, refl, sym, ◌∙◌, ap}
use mathlib.Core.Bool.{Bool, true, false, not, cond}
use mathlib.Core.List.{List, [], ◌∷◌}
use Prim.Native.Nat.{ℕ, suc, ◌+◌, ◌-◌, ◌*◌, ◌≤◌}
use native.Mathlib.Omega.{arith}
use lib.Dec.{eqb, ltb}
use lib.ListN.{length, get_or, take, drop, length-drop, drop_of_length-le}
use lib.Seq.{drop-drop, get_or-drop, take-length}
use borrow.Author.Tests.{ltb-true, ltb-false}
use Rattle.std.specs.Prelude.{Some, None}
use Rattle.std.specs.List.{position, position_or_len}
use Rattle.machine.specs.Size.{sizes}
use Rattle.operands.specs.Operands.{letters}
use Rattle.scans.specs.Scanned.{past_space, PastSpace, worth, is_digit, number_in, place_of, from_end, size_in}

-- the first space of a text, and what follows it
abbrev pub is_space : ℕ → Bool
is_space b = eqb b 32

past_first : (l : List ℕ) → past_space l ≡ drop (position_or_len is_space l + 1) l
unfolding past_space
past_first [] = refl
past_first (b ∷ l) = go (is_space b) (past_first l)
  where
    go : (t : Bool) → past_space l ≡ drop (position_or_len is_space l + 1) l
        → cond t l (past_space l) ≡ drop (cond (not t) (1 + position_or_len is_space l) 0 + 1) (b ∷ l)
    go true h = refl
    go false h = h ∙ ap (λ (n : ℕ). drop n (b ∷ l)) more
      where
        more : suc (position_or_len is_space l + 1) ≡ 1 + position_or_len is_space l + 1
        more = omega arith

-- the place after the first space from a place on, and the end where there is none
module _ (l : List ℕ) (from : ℕ) (inside : from ≤ length l) where
  abbrev first : ℕ
  first = position_or_len is_space (drop from l)

  pub past_here : (k : ℕ) → Some k ≡ position is_space (drop from l) → PastSpace l from (from + k + 1)
  past_here k e = go (ltb first (length (drop from l))) refl e
    where
      go : (t : Bool) → ltb first (length (drop from l)) ≡ t → Some k ≡ cond t (Some first) None → PastSpace l from (from + k + 1)
      go true p f =
          let at : k ≡ first = cc in
          record {
            within = omega (arith, ltb-true _ _ p, length-drop from l);
            rest = ap (λ (i : ℕ). drop i l) (omega arith) ∙ sym (drop-drop (first + 1) from l) ∙ sym (past_first (drop from l));
          }
      go false p f = cc

  pub past_end : None ≡ position is_space (drop from l) → PastSpace l from (length l)
  past_end e = go (ltb first (length (drop from l))) refl e
    where
      go : (t : Bool) → ltb first (length (drop from l)) ≡ t → None ≡ cond t (Some first) None → PastSpace l from (length l)
      go true p f = cc
      go false p f =
          let past : length (drop from l) ≤ first = ltb-false _ _ p in
          record {
            within = omega arith;
            rest =
                drop_of_length-le l {i = length l} (omega arith)
                ∙ sym (drop_of_length-le (drop from l) {i = first + 1} (omega arith))
                ∙ sym (past_first (drop from l));
          }

  -- the bytes from a place on, as a range without an end has them
  pub rest_of : take (length l - from) (drop from l) ≡ drop from l
  rest_of = ap (λ (n : ℕ). take n (drop from l)) (sym (length-drop from l)) ∙ take-length (drop from l)

-- the number at a place, by the bytes there and what they are worth
pub number_is : (l : List ℕ) (at a b x y : ℕ) (t : Bool) → a ≡ get_or l (at + 1) 0 → b ≡ get_or l (at + 2) 0 → t ≡ is_digit b
    → x ≡ worth a → y ≡ worth b → cond t (x * 10 + y) x ≡ number_in (drop at l)
unfolding number_in
number_is l at a b x y t first second two tens ones =
    rw (get_or-drop at l 1 0, get_or-drop at l 2 0, ← first, ← second, ← two, ← tens, ← ones)

-- a letter's place is small
pub place_most : (b : ℕ) (l : List ℕ) → place_of b l ≤ length l
place_most b [] = omega arith
place_most b (a ∷ l) = go (eqb b a) (place_most b l)
  where
    go : (t : Bool) → place_of b l ≤ length l → cond t 0 (suc (place_of b l)) ≤ suc (length l)
    go true h = omega arith
    go false h = omega arith

-- no size past their number is told
pub size_in_within : (text : List ℕ) (k : ℕ) → size_in text k ≤ sizes
size_in_within text k = place_most (from_end text k) letters
