-- The halves of two tests that both hold, the test of two lists: they are the same exactly where it says so; and what an arm of a match tells.
-- Assumes nothing.
use Prim.Native.Nat.{ℕ}
use mathlib.Core.Path.{◌≡◌, refl, sym, ◌∙◌, ap, ap₂}
use mathlib.Core.Bool.{Bool, true, false}
use mathlib.Core.List.{List, [], ◌∷◌}
use lib.Dec.{eqb}
use borrow.Author.Tests.{eqb-true, eq-eqb}
use Rattle.parts.specs.Part.{both, same_bytes}

-- the halves of two tests that both hold
pub both_left : (a b : Bool) → both a b ≡ true → a ≡ true
both_left true b e = cc
both_left false b e = e

pub both_right : (a b : Bool) → both a b ≡ true → b ≡ true
both_right true b e = e
both_right false b e = cc

pub same_true : (a b : List ℕ) → same_bytes a b ≡ true → a ≡ b
same_true [] [] e = refl
same_true [] (y ∷ ys) e = cc
same_true (x ∷ xs) [] e = cc
same_true (x ∷ xs) (y ∷ ys) e =
    ap₂ ◌∷◌ (eqb-true x y (both_left _ (same_bytes xs ys) e)) (same_true xs ys (both_right (eqb x y) _ e))

pub same_refl : (a : List ℕ) → same_bytes a a ≡ true
same_refl [] = refl
same_refl (x ∷ xs) = rw (eq-eqb x x refl, same_refl xs)

-- a test that holds exactly where two lists are equal is the test of their bytes
pub same_exactly : (r : Bool) (a b : List ℕ) → (r ≡ true → a ≡ b) → (a ≡ b → r ≡ true) → r ≡ same_bytes a b
same_exactly true a b p q = rw (p refl) (sym (same_refl b))
same_exactly false a b p q = go (same_bytes a b) refl
  where
    go : (t : Bool) → same_bytes a b ≡ t → false ≡ t
    go true e = q (same_true a b e)
    go false e = refl

-- lists that differ
pub same_not : (a b : List ℕ) → (a ≡ b → ⊥) → same_bytes a b ≡ false
same_not a b differ = go (same_bytes a b) refl
  where
    go : (t : Bool) → same_bytes a b ≡ t → t ≡ false
    go true e = absurd (differ (same_true a b e))
    go false e = refl

-- an arm's answer for the value that the arm is of is the answer for the value that led there
pub of_arm : {A B : Type 0} (f : A → B) (x arm : A) (r : B) → x ≡ arm → r ≡ f arm → r ≡ f x
of_arm f x arm r is e = e ∙ ap f (sym is)
