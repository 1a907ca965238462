-- A piece written at the front of a part that was lent is written at the part's place.
-- Assumes nothing.
use mathlib.Core.Path.{◌≡◌, sym, ◌∙◌}
use mathlib.Core.List.{List, [], append_assoc, append-nil}
use Prim.Native.Nat.{ℕ, ◌+◌, ◌-◌, ◌≤◌}
use native.Mathlib.Nat.{zero-add}
use native.Mathlib.Omega.{arith}
use lib.ListN.{length, take, drop, length-drop}
use lib.Seq.{sets-eq, take_all, drop-drop, drop-length}
use borrow.Rule.Slice.PartMut.{mid_of, put_mid, Post-is}
use Rattle.digits.specs.Put.{Put}

module _ (at : ℕ) (l : List ℕ) (h : at ≤ length l) where
  -- the part from a place on, and what lies after it
  part_is : mid_of at (length l - at) l ≡ drop at l
  part_is = take_all (length l - at) (drop at l) (simp length-drop (omega arith))

  past_is : drop (length l - at) (drop at l) ≡ []
  past_is = Post-is at (length l) l h ∙ drop-length l

  pub put_from : {m p : List ℕ} {count : ℕ} → at + length p ≤ length l → Put (mid_of at (length l - at) l) 0 p m count
      → Put l at p (put_mid at (length l - at) l m) (at + count)
  put_from {m} {p} {count} fits put =
      record {
        bytes =
            rw (past_is, append-nil m, put.bytes, part_is, sets-eq p (drop at l) 0 (rw (zero-add, length-drop) (omega arith)), zero-add, drop-drop)
            (sym (append_assoc (take at l) p (drop (at + length p) l)) ∙ sym (sets-eq p l at fits));
        after = rw (put.after, zero-add);
      }
