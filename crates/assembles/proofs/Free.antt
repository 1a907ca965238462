-- What stands between the spaces of a text: the name and the operands, which have none.
-- Assumes nothing.
use mathlib.Core.Path.{◌≡◌, refl, sym, ◌∙◌, ap}
use mathlib.Core.Bool.{Bool, true, false, not, cond}
use mathlib.Core.List.{List, [], ◌∷◌, ◌++◌}
use Prim.Native.Nat.{ℕ, zero, suc, ◌/◌, ◌%◌, ◌<◌}
use native.Mathlib.Nat.{mod-lt}
use native.Mathlib.Omega.{arith}
use lib.Dec.{eqb}
use lib.Seq.{append_snoc}
use Rattle.parts.specs.Text.{bytes}
use Rattle.rows.specs.Table.{rows, row_at}
use Rattle.rows.proofs.Every.{every, at_each}
use Rattle.digits.specs.Digits.{digit_of, digits_in, decimal_width, decimal}
use Rattle.operands.specs.declared.Suffix.{Suffix}
use Rattle.operands.specs.declared.Suffix.TheVariants.{Plain, Lane, Lanes, Merging}
use Rattle.operands.specs.declared.Operand.{Operand}
use Rattle.operands.specs.Operands.{letter_of, suffix_text, operand_text}
use Rattle.names.specs.Text.{key_of, name_of}
use Rattle.scans.specs.Scanned.{past_space}

-- bytes with no space among them
abbrev pub free : List ℕ → Bool
free [] = true
free (b ∷ l) = cond (eqb b 32) false (free l)

free_append : (k l : List ℕ) → free k ≡ true → free l ≡ true → free (k ++ l) ≡ true
free_append [] l e f = f
free_append (b ∷ k) l e f = go (eqb b 32) e (λ e'. free_append k l e' f)
  where
    go : (t : Bool) → cond t false (free k) ≡ true → (free k ≡ true → free (k ++ l) ≡ true) → cond t false (free (k ++ l)) ≡ true
    go true e rest = e
    go false e rest = rest e

-- what follows the first space after them
pub past_free : (k rest : List ℕ) → free k ≡ true → past_space (k ++ (32 ∷ rest)) ≡ rest
unfolding past_space
past_free [] rest e = refl
past_free (b ∷ k) rest e = go (eqb b 32) e (λ e'. past_free k rest e')
  where
    go : (t : Bool) → cond t false (free k) ≡ true → (free k ≡ true → past_space (k ++ (32 ∷ rest)) ≡ rest)
        → cond t (k ++ (32 ∷ rest)) (past_space (k ++ (32 ∷ rest))) ≡ rest
    go true e rest = cc
    go false e rest = rest e

-- the pieces of a text
digit_free : ℕ → Bool
digit_free d = not (eqb (digit_of d) 32)

digits_free : every 10 digit_free ≡ true
unfolding digit_free digit_of
digits_free = refl

free_digit : (n : ℕ) → eqb (digit_of (n % 10)) 32 ≡ false
unfolding digit_free
free_digit n = go _ (at_each 10 digit_free digits_free (n % 10) (mod-lt n (omega arith)))
  where
    go : (t : Bool) → not t ≡ true → t ≡ false
    go true e = sym e
    go false e = refl

free_digits : (count n : ℕ) → free (digits_in 10 count n) ≡ true
unfolding digits_in
free_digits zero n = refl
free_digits (suc count) n = free_append (digits_in 10 count (n / 10)) (digit_of (n % 10) ∷ []) (free_digits count (n / 10)) (rw (free_digit n))

free_decimal : (n : ℕ) → free (decimal n) ≡ true
free_decimal n = free_digits (decimal_width n) n

pub free_letter : (size : ℕ) → eqb (letter_of size) 32 ≡ false
unfolding letter_of
free_letter zero = refl
free_letter (suc zero) = refl
free_letter (suc (suc zero)) = refl
free_letter (suc (suc (suc zero))) = refl
free_letter (suc (suc (suc (suc size)))) = refl

free_suffix : (s : Suffix) → free (suffix_text s) ≡ true
free_suffix Plain = refl
free_suffix (Lane size) = rw (free_letter size)
free_suffix (Lanes count size) = free_append (decimal count) (letter_of size ∷ []) (free_decimal count) (rw (free_letter size))
free_suffix Merging = refl

free_operand : (o : Operand) → eqb o.letter 32 ≡ false → free (operand_text o) ≡ true
free_operand o h = rw h (free_append (decimal o.number) (suffix_text o.suffix) (free_decimal o.number) (free_suffix o.suffix))

-- past the first space is what follows the comma after the operand
pub past_operand : (o : Operand) (rest : List ℕ) → eqb o.letter 32 ≡ false → past_space (operand_text o ++ (44 ∷ 32 ∷ rest)) ≡ rest
past_operand o rest h =
    ap past_space (sym (append_snoc (operand_text o) 44 (32 ∷ rest)))
    ∙ past_free (operand_text o ++ (44 ∷ [])) rest (free_append (operand_text o) (44 ∷ []) (free_operand o h) refl)

-- and past the name's, the first operand
names_free : every rows (λ i. free (name_of i)) ≡ true
unfolding name_of key_of row_at
names_free = refl

pub past_name : (row : ℕ) (l : List ℕ) → row < rows → past_space (name_of row ++ bytes " " ++ l) ≡ l
past_name row l h =
    ap past_space (append_snoc (name_of row) 32 l) ∙ past_free (name_of row) l (at_each rows (λ i. free (name_of i)) names_free row h)
