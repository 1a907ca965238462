-- A list with other elements in one part: what is read in that part is what was written, what lies elsewhere stays, and parts that do not
-- meet are written in either order. Once, for a register of a file, an entry of a journal and its count.
-- Assumes nothing.
use Prim.Native.Nat.{ℕ, ◌+◌, ◌-◌, ◌≤◌, ◌<◌}
use mathlib.Core.Path.{◌≡◌, sym, ◌∙◌, ap}
use mathlib.Core.List.{List, ◌++◌, append_assoc}
use mathlib.Core.Logic.{inl, inr}
use native.Mathlib.Nat.{add-zero}
use native.Mathlib.Omega.{arith}
use lib.ListN.{length, get_or, take, drop, length-append, length-drop, take-append-drop}
use Rattle.parts.specs.Part.{part, with_part, Outside}
use lib.Seq.{length-take-le, take-append-le, drop-append-le, take-append-add, take_at, drop_at, take-add}
use lib.Seq.{take-take, drop-drop, get_or-drop, get_or-take}

-- a part is what lies between two places
pub part_between : (a n : ℕ) (l : List ℕ) → a ≤ length l → drop a (take (a + n) l) ≡ part a n l
part_between a n l h =
    ap (drop a) (take-add a n l) ∙ drop_at (take a l) (part a n l) a (length-take-le a l h)

-- a part of a part
pub part_part : (a n b m : ℕ) (l : List ℕ) → a + n ≤ length l → b + m ≤ n → part b m (part a n l) ≡ part (a + b) m l
part_part a n b m l h q =
    ap (λ (i : ℕ). take m (drop b (take i (drop a l)))) split
    ∙ ap (take m) (part_between b (n - b) (drop a l) (simp length-drop (omega arith)))
    ∙ take-take m (n - b) (drop b (drop a l)) (omega arith)
    ∙ ap (take m) (drop-drop b a l)
  where
    split : n ≡ b + (n - b)
    split = omega arith

module _ (a n : ℕ) (e l : List ℕ) (fits : a + n ≤ length l) (sized : length e ≡ n) where
  head_length : length (take a l ++ e) ≡ a + n
  head_length = simp (length-append, length-take-le a l (omega arith), sized)

  pub length_with : length (with_part a n e l) ≡ length l
  length_with = simp (length-append, length-drop, length-take-le a l (omega arith), sized) (omega arith)

  -- the part before it, and all before a place that is not past it
  pub take_with : (m : ℕ) → m ≤ a → take m (with_part a n e l) ≡ take m l
  take_with m h =
      take-append-le m (take a l ++ e) (drop (a + n) l) (omega (arith, head_length))
      ∙ take-append-le m (take a l) e (omega (arith, length-take-le a l (omega arith)))
      ∙ take-take m a l h

  -- the part after it
  pub drop_with : (m : ℕ) → a + n ≤ m → drop m (with_part a n e l) ≡ drop m l
  drop_with m h =
      ap (λ (i : ℕ). drop i (with_part a n e l)) split
      ∙ sym (drop-drop (m - (a + n)) (a + n) (with_part a n e l))
      ∙ ap (drop (m - (a + n))) (drop_at (take a l ++ e) (drop (a + n) l) (a + n) head_length)
      ∙ drop-drop (m - (a + n)) (a + n) l
      ∙ ap (λ (i : ℕ). drop i l) (sym split)
    where
      split : m ≡ a + n + (m - (a + n))
      split = omega arith

  -- what was written
  pub part_with : part a n (with_part a n e l) ≡ e
  part_with =
      ap (λ (s : List ℕ). take n (drop a s)) (append_assoc (take a l) e (drop (a + n) l))
      ∙ ap (take n) (drop_at (take a l) (e ++ drop (a + n) l) a (length-take-le a l (omega arith)))
      ∙ take_at e (drop (a + n) l) n sized

  -- a part before it, and one after it
  pub part_before : (b m : ℕ) → b + m ≤ a → part b m (with_part a n e l) ≡ part b m l
  part_before b m h =
      sym (part_between b m (with_part a n e l) (omega (arith, length_with)))
      ∙ ap (drop b) (take_with (b + m) h)
      ∙ part_between b m l (omega arith)

  pub part_after : (b m : ℕ) → a + n ≤ b → part b m (with_part a n e l) ≡ part b m l
  part_after b m h = ap (take m) (drop_with b h)

  -- an element of it, one before it, and one after it
  pub get_d_with : (i : ℕ) → i < n → get_or (with_part a n e l) (a + i) 0 ≡ get_or e i 0
  get_d_with i h =
      sym (get_or-drop a (with_part a n e l) i 0)
      ∙ sym (get_or-take n (drop a (with_part a n e l)) i 0 h)
      ∙ ap (λ (s : List ℕ). get_or s i 0) part_with

  pub get_d_before : (i : ℕ) → i < a → get_or (with_part a n e l) i 0 ≡ get_or l i 0
  get_d_before i h =
      sym (get_or-take a (with_part a n e l) i 0 h)
      ∙ ap (λ (s : List ℕ). get_or s i 0) (take_with a (omega arith))
      ∙ get_or-take a l i 0 h

  pub get_d_after : (i : ℕ) → a + n ≤ i → get_or (with_part a n e l) i 0 ≡ get_or l i 0
  get_d_after i h =
      ap (λ (j : ℕ). get_or (with_part a n e l) j 0) (sym (add-zero i))
      ∙ sym (get_or-drop i (with_part a n e l) 0 0)
      ∙ ap (λ (s : List ℕ). get_or s 0 0) (drop_with i h)
      ∙ get_or-drop i l 0 0
      ∙ ap (λ (j : ℕ). get_or l j 0) (add-zero i)

  pub get_d_outside : (i : ℕ) → Outside a n i → get_or (with_part a n e l) i 0 ≡ get_or l i 0
  get_d_outside i (inl h) = get_d_before i h
  get_d_outside i (inr h) = get_d_after i h

  -- written again
  pub with_again : (f : List ℕ) → with_part a n f (with_part a n e l) ≡ with_part a n f l
  with_again f =
      ap (λ (s : List ℕ). s ++ f ++ drop (a + n) (with_part a n e l)) (take_with a (omega arith))
      ∙ ap (λ (s : List ℕ). take a l ++ f ++ s) (drop_with (a + n) (omega arith))

  -- one part written after another that lies before it
  pub with_comm : (b m : ℕ) (f : List ℕ) → a + n ≤ b → b + m ≤ length l
      → with_part b m f (with_part a n e l) ≡ with_part a n e (with_part b m f l)
  with_comm b m f h k =
      ap (λ (s : List ℕ). s ++ f ++ drop (b + m) (with_part a n e l)) between
      ∙ ap (λ (s : List ℕ). take a l ++ e ++ part (a + n) (b - (a + n)) l ++ f ++ s) (drop_with (b + m) (omega arith))
      ∙ grouped (take a l ++ e) (part (a + n) (b - (a + n)) l) f (drop (b + m) l)
      ∙ sym
      (ap (λ (s : List ℕ). s ++ e ++ drop (a + n) (with_part b m f l)) first
      ∙ ap (λ (s : List ℕ). take a l ++ e ++ s) rest)
    where
      grouped : (s t u v : List ℕ) → s ++ t ++ u ++ v ≡ s ++ (t ++ u ++ v)
      grouped s t u v = simp append_assoc

      split : b ≡ a + n + (b - (a + n))
      split = omega arith

      between : take b (with_part a n e l) ≡ take a l ++ e ++ part (a + n) (b - (a + n)) l
      between =
          ap (λ (i : ℕ). take i (with_part a n e l)) (split ∙ ap (λ (i : ℕ). i + (b - (a + n))) (sym head_length))
          ∙ take-append-add (take a l ++ e) (drop (a + n) l) (b - (a + n))

      first : take a (with_part b m f l) ≡ take a l
      first =
          ap (take a) (append_assoc (take b l) f (drop (b + m) l))
          ∙ take-append-le a (take b l) (f ++ drop (b + m) l) (omega (arith, length-take-le b l (omega arith)))
          ∙ take-take a b l (omega arith)

      rest : drop (a + n) (with_part b m f l) ≡ part (a + n) (b - (a + n)) l ++ f ++ drop (b + m) l
      rest =
          ap (drop (a + n)) (append_assoc (take b l) f (drop (b + m) l))
          ∙ drop-append-le (a + n) (take b l) (f ++ drop (b + m) l) (omega (arith, length-take-le b l (omega arith)))
          ∙ ap (λ (s : List ℕ). s ++ (f ++ drop (b + m) l))
          (ap (λ (i : ℕ). drop (a + n) (take i l)) split ∙ part_between (a + n) (b - (a + n)) l fits)
          ∙ sym (append_assoc (part (a + n) (b - (a + n)) l) f (drop (b + m) l))

-- a part written as it stands
pub with_same : (a n : ℕ) (l : List ℕ) → with_part a n (part a n l) l ≡ l
with_same a n l =
    ap (λ (s : List ℕ). s ++ drop (a + n) l) (sym (take-add a n l)) ∙ take-append-drop (a + n) l

-- a part that is inside has its length
pub length_part : (a n : ℕ) (l : List ℕ) → a + n ≤ length l → length (part a n l) ≡ n
length_part a n l h = length-take-le n (drop a l) (simp length-drop (omega arith))
