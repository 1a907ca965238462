-- Numbers that lie within masks with no digit in common: their sum's digits under each mask are that mask's number. Masks may be those
-- of fields: numbers of their fields' digits are told by their sum.
-- Assumes nothing.
use mathlib.Core.Path.{◌≡◌, refl, sym, ◌∙◌, ap, ap₂}
use mathlib.Core.Bool.{Bool, true}
use mathlib.Core.List.{List, [], ◌∷◌, map}
use Prim.Native.Nat.{ℕ, ◌+◌, ◌*◌, ◌-◌, ◌%◌, ◌^◌, ◌≤◌, ◌<◌}
use native.Mathlib.Nat.{lt_of_lt_of_le, mod-eq_of_lt, eq_of_mul-eq-mul_right}
use native.Mathlib.Omega.{arith}
use lib.Bits.{bit_and, and_high}
use lib.Dec.{eqb}
use lib.ListN.{get_or, drop}
use lib.Pow.{high_ones, pow_mono, pow_pos, shl_lt, shl-shr}
use borrow.Author.Tests.{eqb-true}
use Rattle.parts.specs.Part.{both}
use Rattle.parts.proofs.Same.{both_left, both_right}
use Rattle.rows.specs.Digits.{digits_and, field}
use Rattle.rows.proofs.Digits.{and_digits, and_comm, and_add, and_apart, and_none}

abbrev pub total : List ℕ → ℕ
total [] = 0
total (m ∷ ms) = m + total ms

-- no two of some masks have a digit in common
unfoldable pub disjoint : ℕ → List ℕ → Bool
disjoint n [] = true
disjoint n (m ∷ ms) = both (eqb (digits_and n m (total ms)) 0) (disjoint n ms)

-- where no two masks have a digit in common, neither have the first and the others' sum, nor two of the others
first_apart : (n m : ℕ) (ms : List ℕ) → disjoint n (m ∷ ms) ≡ true → digits_and n m (total ms) ≡ 0
unfolding disjoint
first_apart n m ms e = eqb-true _ _ (both_left _ (disjoint n ms) e)

rest_disjoint : (n m : ℕ) (ms : List ℕ) → disjoint n (m ∷ ms) ≡ true → disjoint n ms ≡ true
unfolding disjoint
rest_disjoint n m ms e = both_right (eqb (digits_and n m (total ms)) 0) _ e

-- the digits of a word under each of some masks
abbrev pub under : ℕ → ℕ → List ℕ → List ℕ
under n w [] = []
under n w (m ∷ ms) = digits_and n w m ∷ under n w ms

-- the digits of a word under the sum of some masks are the sum of those under each
pub under_total : (n w : ℕ) (ms : List ℕ) → disjoint n ms ≡ true → digits_and n w (total ms) ≡ total (under n w ms)
under_total n w [] e = and_none n w
under_total n w (m ∷ ms) e =
    and_add n w m (total ms) (first_apart n m ms e)
    ∙ ap (λ (x : ℕ). digits_and n w m + x) (under_total n w ms (rest_disjoint n m ms e))

-- numbers lie within masks, one within each
abbrev pub Within : ℕ → List ℕ → List ℕ → Type 0
Within n [] [] = Unit
Within n [] (m ∷ ms) = ⊥
Within n (p ∷ ps) [] = ⊥
Within n (p ∷ ps) (m ∷ ms) = (digits_and n p m ≡ p) × Within n ps ms

-- the sum of two numbers with no digit in common, under a mask
and_add_left : (n m p q : ℕ) → digits_and n p q ≡ 0 → digits_and n (p + q) m ≡ digits_and n p m + digits_and n q m
and_add_left n m p q h =
    and_comm n (p + q) m ∙ and_add n m p q h ∙ ap₂ (λ (x y : ℕ). x + y) (and_comm n m p) (and_comm n m q)

-- what lies within the first mask has no digit in common with the others
first_none : (n p m : ℕ) (ms : List ℕ) → disjoint n (m ∷ ms) ≡ true → digits_and n p m ≡ p → digits_and n p (total ms) ≡ 0
first_none n p m ms e w =
    and_comm n p (total ms) ∙ and_apart n (total ms) p m w (and_comm n (total ms) m ∙ first_apart n m ms e)

-- the sum of numbers that lie within masks, one within each, lies within the sum of the masks
pub total_within : (n : ℕ) (ps ms : List ℕ) → disjoint n ms ≡ true → Within n ps ms → digits_and n (total ps) (total ms) ≡ total ps
total_within n [] [] e w = and_none n 0
total_within n [] (m ∷ ms) e w = absurd w
total_within n (p ∷ ps) [] e w = absurd w
total_within n (p ∷ ps) (m ∷ ms) e w =
    let inner = total_within n ps ms (rest_disjoint n m ms e) w.1 in
    let h = first_apart n m ms e in
    let none = first_none n p m ms e w.0 in
    let other = and_comm n (total ps) m ∙ and_apart n m (total ps) (total ms) inner h in
    let apart = and_apart n p (total ps) (total ms) inner none in
    and_add n (p + total ps) m (total ms) h
    ∙ ap₂ (λ (x y : ℕ). x + y) (and_add_left n m p (total ps) apart) (and_add_left n (total ms) p (total ps) apart)
    ∙ omega (arith, w.0, inner, none, other)

-- a number with no digit under some masks, added to another, changes nothing under them
under_more : (n p q : ℕ) (ms : List ℕ) → disjoint n ms ≡ true → digits_and n p q ≡ 0 → digits_and n p (total ms) ≡ 0
    → under n (p + q) ms ≡ under n q ms
under_more n p q [] e h none = refl
under_more n p q (m ∷ ms) e h none =
    let parts = sym (and_add n p m (total ms) (first_apart n m ms e)) ∙ none in
    ap₂ (λ (x : ℕ) (xs : List ℕ). x ∷ xs)
    (and_add_left n m p q h ∙ omega (arith, parts))
    (under_more n p q ms (rest_disjoint n m ms e) h (omega (arith, parts)))

-- what the sum of numbers within masks has under each mask is the number within it
pub total_under : (n : ℕ) (ps ms : List ℕ) → disjoint n ms ≡ true → Within n ps ms → under n (total ps) ms ≡ ps
total_under n [] [] e w = refl
total_under n [] (m ∷ ms) e w = absurd w
total_under n (p ∷ ps) [] e w = absurd w
total_under n (p ∷ ps) (m ∷ ms) e w =
    let rest = rest_disjoint n m ms e in
    let inner = total_within n ps ms rest w.1 in
    let none = first_none n p m ms e w.0 in
    let apart = and_apart n p (total ps) (total ms) inner none in
    let other = and_comm n (total ps) m ∙ and_apart n m (total ps) (total ms) inner (first_apart n m ms e) in
    ap₂ (λ (x : ℕ) (xs : List ℕ). x ∷ xs)
    (and_add_left n m p (total ps) apart ∙ omega (arith, w.0, other))
    (under_more n p (total ps) ms rest apart none ∙ total_under n ps ms rest w.1)

-- a field by its lowest digit and the number of its digits, and its mask
abbrev pub Place : Type 0
Place = ℕ × ℕ

abbrev pub field_mask : Place → ℕ
field_mask p = (2 ^ p.1 - 1) * 2 ^ p.0

-- what a word has under a field's mask is the field, at its place
under_field : (n : ℕ) (p : Place) (w : ℕ) → w < 2 ^ n → digits_and n w (field_mask p) ≡ field p.0 p.1 w * 2 ^ p.0
under_field n p w h =
    sym (and_digits n w _ h) ∙ ap (λ (m : ℕ). bit_and w m) (sym (high_ones p.1 p.0)) ∙ and_high w p.1 p.0

-- a number of a field's digits lies within its place
field_within : (n : ℕ) (p : Place) (x : ℕ) → p.1 + p.0 ≤ n → x < 2 ^ p.1 → digits_and n (x * 2 ^ p.0) (field_mask p) ≡ x * 2 ^ p.0
field_within n p x fits h =
    under_field n p (x * 2 ^ p.0) (lt_of_lt_of_le (shl_lt p.1 p.0 h) (pow_mono fits))
    ∙ ap (λ (y : ℕ). y % 2 ^ p.1 * 2 ^ p.0) (shl-shr x p.0)
    ∙ ap (λ (y : ℕ). y * 2 ^ p.0) (mod-eq_of_lt h)

-- a word's fields, and numbers at the places of fields
abbrev pub fields_in : ℕ → List Place → List ℕ
fields_in w [] = []
fields_in w (p ∷ ps) = field p.0 p.1 w ∷ fields_in w ps

abbrev pub placed : List Place → List ℕ → List ℕ
placed (p ∷ ps) (x ∷ xs) = x * 2 ^ p.0 ∷ placed ps xs
placed [] xs = []
placed (p ∷ ps) [] = []

-- what a word has under the masks of some fields is these fields, at their places
pub under_fields : (n : ℕ) (ps : List Place) (w : ℕ) → w < 2 ^ n → under n w (map field_mask ps) ≡ placed ps (fields_in w ps)
under_fields n [] w h = refl
under_fields n (p ∷ ps) w h = ap₂ (λ (x : ℕ) (xs : List ℕ). x ∷ xs) (under_field n p w h) (under_fields n ps w h)

-- numbers of their fields' digits, one for each, in a word of n digits
abbrev pub Fits : ℕ → List Place → List ℕ → Type 0
Fits n [] [] = Unit
Fits n [] (x ∷ xs) = ⊥
Fits n (p ∷ ps) [] = ⊥
Fits n (p ∷ ps) (x ∷ xs) = (p.1 + p.0 ≤ n) × (x < 2 ^ p.1) × Fits n ps xs

-- numbers of their fields' digits, each at its field's place, lie within the fields' masks
pub fields_within : (n : ℕ) (ps : List Place) (xs : List ℕ) → Fits n ps xs → Within n (placed ps xs) (map field_mask ps)
fields_within n [] [] w = tt
fields_within n [] (x ∷ xs) w = absurd w
fields_within n (p ∷ ps) [] w = absurd w
fields_within n (p ∷ ps) (x ∷ xs) w = (field_within n p x w.0 w.1, fields_within n ps xs w.2)

-- numbers of their fields' digits are told by what stands at the fields' places
pub placed_one : (n : ℕ) (ps : List Place) (w : ℕ) (xs : List ℕ) → Fits n ps xs → placed ps (fields_in w ps) ≡ placed ps xs → fields_in w ps ≡ xs
placed_one n [] w [] fits e = refl
placed_one n [] w (x ∷ xs) fits e = absurd fits
placed_one n (p ∷ ps) w [] fits e = absurd fits
placed_one n (p ∷ ps) w (x ∷ xs) fits e =
    ap₂ (λ (y : ℕ) (ys : List ℕ). y ∷ ys)
    (eq_of_mul-eq-mul_right (2 ^ p.0) (pow_pos p.0) _ x (ap (λ (l : List ℕ). get_or l 0 0) e))
    (placed_one n ps w xs fits.2 (ap (drop 1) e))
