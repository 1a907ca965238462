-- Sums of integers: modulo 2^E they are the low digits of the exact sum; read at their sign they are the exact sum where there are few
-- enough of them; a sum over a range of elements is the sum over its parts; and what is inactive does not matter.
-- Assumes nothing.
use Rattle.std.proofs.Common.{◌≡◌, ℕ, zero, suc, ◌+◌, ◌*◌, ◌%◌, ◌^◌, ◌<◌, ◌≤◌, Bool, true, false, cond, List, [], ◌∷◌, ◌++◌, map, length, ℤ, pos, negsuc, ◌+ℤ◌, neg_ℤ, nat_abs, sym, refl, ap, ◌∙◌, ap₂, add-zero, add-suc, suc-mul, add_comm, suc-add, zero-add, arith, pow-add, lt-ltb, leb-false, leb-true}
use native.Mathlib.Nat.{zero-mod}
use lib.IntN.{sub_ℕ, +ℤ_idl, +ℤ_idr, +ℤ_assoc}
use Rattle.parts.specs.Number.{bits_of, AreBytes}
use Rattle.lanes.specs.Integer.{is_negative, integer, residue, FitsAt}
use Rattle.lanes.specs.Lane.{lane}
use Rattle.lanes.specs.Sum.{each, element, counted, total, wrapped_sum}
use Rattle.lanes.proofs.Bytes.{lane_lt}
use Rattle.lanes.proofs.Residues.{abs_sum, abs_negative, residue_sum, residue_difference, integer_residue}

-- a sum of low digits, rounded after each, is the low digits of the exact sum
pub wrapped_sum_lem : (D : ℕ) (zs : List ℤ) → wrapped_sum D (map (residue D) zs) ≡ residue D (total zs)
wrapped_sum_lem D [] = sym (zero-mod (2 ^ D))
wrapped_sum_lem D (z ∷ zs) = ap (λ (n : ℕ). (residue D z + n) % 2 ^ D) (wrapped_sum_lem D zs) ∙ sym (residue_sum D z (total zs))

-- the low digits of two integers' sum
pub residue_two : (D : ℕ) (x y : ℤ) → residue D (total (x ∷ y ∷ [])) ≡ (residue D x + residue D y) % 2 ^ D
residue_two D x y = ap (λ (z : ℤ). residue D (x +ℤ z)) (+ℤ_idr y) ∙ residue_sum D x y

-- the low digits of two integers' difference
pub residue_less : (D : ℕ) (x y : ℤ) (r : ℕ) → r < 2 ^ D → (r + residue D y) % 2 ^ D ≡ residue D x → r ≡ residue D (total (x ∷ neg_ℤ y ∷ []))
residue_less D x y r below wraps = residue_difference D x y r below wraps ∙ ap (λ (z : ℤ). residue D (x +ℤ z)) (sym (+ℤ_idr (neg_ℤ y)))

-- an integer that lies within B: at most B, and where it is signed at most half of B from zero
abbrev pub Within : Bool → ℕ → ℤ → Type 0
Within true B z = 2 * nat_abs z ≤ B
Within false B (pos n) = n ≤ B
Within false B (negsuc n) = ⊥

within_zero : (signed : Bool) (B : ℕ) → Within signed B (pos 0)
within_zero true B = omega arith
within_zero false B = omega arith

within_sum : (signed : Bool) (A B : ℕ) (x y : ℤ) → Within signed A x → Within signed B y → Within signed (A + B) (x +ℤ y)
within_sum true A B x y a b = omega (arith, abs_sum x y)
within_sum false A B (pos m) (pos n) a b = omega arith
within_sum false A B (pos m) (negsuc n) a b = absurd b
within_sum false A B (negsuc m) y a b = absurd a

within_integer : (signed : Bool) (D n : ℕ) → n < 2 ^ D → Within signed (2 ^ D) (integer signed D n)
within_integer false D n h = omega arith
within_integer true D n h = go (is_negative D n) (leb-true (2 ^ D) (2 * n)) (leb-false (2 ^ D) (2 * n))
  where
    go : (t : Bool) → (t ≡ true → 2 ^ D ≤ 2 * n) → (t ≡ false → 2 * n < 2 ^ D) → Within true (2 ^ D) (cond t (sub_ℕ n (2 ^ D)) (pos n))
    go true f g = rw (lt-ltb n (2 ^ D) h) (omega (arith, f refl))
    go false f g = omega (arith, g refl)

within_fits : (signed : Bool) (B E : ℕ) (z : ℤ) → Within signed B z → B < 2 ^ E → FitsAt signed E z
within_fits true B E (pos n) w h = omega arith
within_fits true B E (negsuc n) w h = omega arith
within_fits false B E (pos n) w h = omega arith
within_fits false B E (negsuc n) w h = absurd w

-- what an element of a register's bytes adds lies within its digits
pub within_counted : (t signed : Bool) (w e : ℕ) (r : List ℕ) → AreBytes r → Within signed (2 ^ bits_of w) (counted t (element signed w r e))
within_counted true signed w e r h = within_integer signed (bits_of w) (lane w e r) (lane_lt w e r h)
within_counted false signed w e r h = within_zero signed (2 ^ bits_of w)

-- an integer that lies within a bound lies within a greater one too
pub within_more : (signed : Bool) (A B : ℕ) (z : ℤ) → A ≤ B → Within signed A z → Within signed B z
within_more true A B z h w = omega arith
within_more false A B (pos n) h w = omega arith
within_more false A B (negsuc n) h w = absurd w

-- what an element adds or takes away, read as signed whatever its own sign is, lies within one digit more than it has
pub within_signed : (t subtract signed : Bool) (w e : ℕ) (r : List ℕ) → AreBytes r
    → Within true (2 ^ (1 + bits_of w)) (counted t (cond subtract (neg_ℤ (element signed w r e)) (element signed w r e)))
within_signed t subtract signed w e r h = rw (pow-add 2 1 (bits_of w)) (go t subtract)
  where
    small : nat_abs (element signed w r e) ≤ 2 ^ bits_of w
    small = by signed (within_integer signed (bits_of w) (lane w e r) (lane_lt w e r h))
      where
        by : (signed : Bool) → Within signed (2 ^ bits_of w) (element signed w r e) → nat_abs (element signed w r e) ≤ 2 ^ bits_of w
        by true within = omega arith
        by false within = within

    go : (t subtract : Bool) → 2 * nat_abs (counted t (cond subtract (neg_ℤ (element signed w r e)) (element signed w r e))) ≤ 2 ^ 1 * 2 ^ bits_of w
    go true true = rw (abs_negative (element signed w r e)) (omega (arith, small))
    go true false = omega (arith, small)
    go false subtract = omega arith

-- every integer of a list lies within B
abbrev pub AllWithin : Bool → ℕ → List ℤ → Type 0
AllWithin signed B [] = Unit {0}
AllWithin signed B (z ∷ zs) = Within signed B z × AllWithin signed B zs

-- the exact sum of integers that lie within B lies within as many times B
within_total : (signed : Bool) (B : ℕ) (zs : List ℤ) → AllWithin signed B zs → Within signed (length zs * B) (total zs)
within_total signed B [] h = within_zero signed (0 * B)
within_total signed B (z ∷ zs) h =
    rw (suc-mul (length zs) B, add_comm (length zs * B) B)
    (within_sum signed B (length zs * B) z (total zs) h.0 (within_total signed B zs h.1))

-- where integers are few enough, the low E digits of their sum, read at their sign, are the exact sum
pub sum_is_exact : (signed : Bool) (B E : ℕ) (zs : List ℤ) → AllWithin signed B zs → length zs * B < 2 ^ E → integer signed E (residue E (total zs)) ≡ total zs
sum_is_exact signed B E zs h few =
    integer_residue signed E (total zs) (within_fits signed (length zs * B) E (total zs) (within_total signed B zs h) few)

-- an element that is not counted does not matter
pub same_counted : (s t : Bool) (x y : ℤ) → s ≡ t → (s ≡ true → x ≡ y) → counted s x ≡ counted t y
same_counted true true x y e f = f refl
same_counted true false x y e f = cc
same_counted false true x y e f = cc
same_counted false false x y e f = refl

-- a list made of each number has as many as were asked for
pub length_each : {X : Type 0} (f : ℕ → X) (e n : ℕ) → length (each f e n) ≡ n
length_each f e zero = refl
length_each f e (suc n) = ap suc (length_each f (suc e) n)

-- what agrees at each number gives the same list
pub same_each : {X : Type 0} (f g : ℕ → X) (e n : ℕ) → ((i : ℕ) → e ≤ i → i < e + n → f i ≡ g i) → each f e n ≡ each g e n
same_each f g e zero h = refl
same_each f g e (suc n) h = ap₂ ◌∷◌ (h e (omega arith) (omega arith)) (same_each f g (suc e) n (λ i l k. h i (omega arith) (omega arith)))

-- a range is its two parts, one after the other
each_split : {X : Type 0} (f : ℕ → X) (e m n : ℕ) → each f e (m + n) ≡ each f e m ++ each f (e + m) n
each_split f e zero n = ap₂ (λ (k i : ℕ). each f i k) (zero-add n) (sym (add-zero e))
each_split f e (suc m) n =
    ap (each f e) (suc-add m n)
    ∙ ap (◌∷◌ (f e)) (each_split f (suc e) m n)
    ∙ ap (λ (i : ℕ). each f e (suc m) ++ each f i n) (suc-add e m ∙ sym (add-suc e m))

-- the exact sum of two lists is the sum of their sums
total_append : (xs ys : List ℤ) → total (xs ++ ys) ≡ total xs +ℤ total ys
total_append [] ys = sym (+ℤ_idl (total ys))
total_append (x ∷ xs) ys = ap (λ (z : ℤ). x +ℤ z) (total_append xs ys) ∙ sym (+ℤ_assoc x (total xs) (total ys))

-- the sum of a range is the sum of its two parts' sums
pub split_sum_lem : (f : ℕ → ℤ) (e m n : ℕ) → total (each f e (m + n)) ≡ total (each f e m) +ℤ total (each f (e + m) n)
split_sum_lem f e m n = ap total (each_split f e m n) ∙ total_append (each f e m) (each f (e + m) n)

-- what is made of each is made of what each makes
pub map_each : {X Y : Type 0} (g : X → Y) (f : ℕ → X) (e n : ℕ) → map g (each f e n) ≡ each (λ (i : ℕ). g (f i)) e n
map_each g f e zero = refl
map_each g f e (suc n) = ap (◌∷◌ (g (f e))) (map_each g f (suc e) n)
