-- What an arm of a match inside another one answers.
-- Assumes nothing.
use mathlib.Core.Path.{◌≡◌, sym, ◌∙◌, ap₂}

-- an arm's answer for the two values that the arms are of is the answer for the two values that led there
pub of_arms : {A B C : Type 0} (f : A → B → C) {x arm : A} {y inner : B} {r : C} → x ≡ arm → y ≡ inner → r ≡ f arm inner → r ≡ f x y
of_arms f is inside e = e ∙ ap₂ f (sym is) (sym inside)
