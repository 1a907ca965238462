-- How a text ends: as the last operand's suffix does, with the letter of a size and, before it, the last digit of a count of lanes; or with what
-- follows the comma after an operand, three before which the letter stands.
-- Assumes nothing.
use mathlib.Core.Path.{◌≡◌, refl, ◌∙◌, ap}
use mathlib.Core.Bool.{Bool, true, cond}
use mathlib.Core.List.{List, [], ◌∷◌, ◌++◌, append_assoc, append-nil}
use Prim.Native.Nat.{ℕ, zero, suc, ◌+◌, ◌-◌, ◌/◌, ◌%◌, ◌≤◌, ◌<◌}
use native.Mathlib.Omega.{arith}
use lib.Dec.{eqb}
use lib.ListN.{length, get_or, length-append}
use lib.Seq.{get_or-append-add}
use borrow.Author.Tests.{le-leb, eqb-true}
use Rattle.machine.specs.Size.{sizes}
use Rattle.rows.proofs.Every.{every, at_each}
use Rattle.digits.specs.Digits.{digit_of, digits_in, decimal_width, decimal}
use Rattle.digits.proofs.Decimals.{digits_length, decimal_least}
use Rattle.operands.specs.declared.Suffix.TheVariants.{Lane, Lanes}
use Rattle.operands.specs.declared.Operand.{Operand}
use Rattle.operands.specs.Operands.{letters, letter_of, lanes_of, suffix_text, operand, operand_text}
use Rattle.names.specs.Text.{listed}
use Rattle.scans.specs.Scanned.{from_end, place_of, full_digits}

-- the end of two lists is that of the second
pub end_append : (k l : List ℕ) (i : ℕ) → i ≤ length l → from_end (k ++ l) i ≡ from_end l i
unfolding from_end
end_append k l i h =
    let whole = length-append k l in
    rw (le-leb i (length (k ++ l)) (omega arith), le-leb i (length l) h)
    (ap (λ (j : ℕ). get_or (k ++ l) j 0) (omega arith) ∙ get_or-append-add k l (length l - i) 0)

-- the last of some operands
abbrev pub last_of : Operand → List Operand → Operand
last_of o [] = o
last_of o (p ∷ os) = last_of p os

-- operands end as the last one's suffix does
pub listed_end : (o : Operand) (os : List Operand) (i : ℕ) → i ≤ length (suffix_text (last_of o os).suffix)
    → (i ≤ length (listed (o ∷ os) [])) × (from_end (listed (o ∷ os) []) i ≡ from_end (suffix_text (last_of o os).suffix) i)
listed_end o [] i h =
    let whole = length-append (decimal o.number) (suffix_text o.suffix) in (
      omega (arith, length-append (operand_text o) []),
      ap (λ (l : List ℕ). from_end l i) (append-nil (operand_text o))
          ∙ end_append (o.letter ∷ decimal o.number) (suffix_text o.suffix) i h,
    )
listed_end o (p ∷ os) i h =
    let rest = listed_end p os i h in
    let whole = length-append (operand_text o) (44 ∷ 32 ∷ listed (p ∷ os) []) in (
      omega arith,
      end_append (operand_text o) (44 ∷ 32 ∷ listed (p ∷ os) []) i (omega arith)
          ∙ end_append (44 ∷ 32 ∷ []) (listed (p ∷ os) []) i rest.0
          ∙ rest.1,
    )

-- the last byte of a suffix with a size is the size's letter
pub lane_end : (size : ℕ) → from_end (suffix_text (Lane size)) 1 ≡ letter_of size
unfolding from_end
lane_end size = refl

pub lanes_end : (count size : ℕ) → from_end (suffix_text (Lanes count size)) 1 ≡ letter_of size
unfolding from_end
lanes_end count size = end_append (46 ∷ decimal count) (letter_of size ∷ []) 1 (omega arith)

-- and where a comma, a space and a rest follow it, it stands three before the rest
whole_end : (b : ℕ) (l : List ℕ) → from_end (b ∷ l) (length (b ∷ l)) ≡ b
unfolding from_end
whole_end b l =
    let none : length (b ∷ l) - length (b ∷ l) ≡ 0 = omega arith in
    rw (le-leb (length (b ∷ l)) (length (b ∷ l)) (omega arith)) (ap (λ (i : ℕ). get_or (b ∷ l) i 0) none)

pub lane_before : (front rest : List ℕ) (letter number size : ℕ)
    → from_end (front ++ (operand_text (operand letter number (Lane size)) ++ (44 ∷ 32 ∷ rest))) (length rest + 3) ≡ letter_of size
lane_before front rest letter number size =
    let end : List ℕ = 44 ∷ 32 ∷ rest in
    let all : length rest + 3 ≡ length (letter_of size ∷ end) = omega arith in
    let whole = length-append (operand_text (operand letter number (Lane size))) end in
    let parts = length-append (letter ∷ decimal number) (46 ∷ letter_of size ∷ []) in
    end_append front (operand_text (operand letter number (Lane size)) ++ end) (length rest + 3) (omega arith)
    ∙ ap (λ (l : List ℕ). from_end l (length rest + 3)) (append_assoc (letter ∷ decimal number) (46 ∷ letter_of size ∷ []) end)
    ∙ end_append (letter ∷ decimal number) (46 ∷ letter_of size ∷ end) (length rest + 3) (omega arith)
    ∙ end_append (46 ∷ []) (letter_of size ∷ end) (length rest + 3) (omega arith)
    ∙ ap (from_end (letter_of size ∷ end)) all
    ∙ whole_end (letter_of size) end

-- which tells the size
letter_good : ℕ → Bool
letter_good size = eqb (place_of (letter_of size) letters) size

letters_good : every sizes letter_good ≡ true
unfolding letter_good letter_of
letters_good = refl

pub place_letter : (size : ℕ) → size < sizes → place_of (letter_of size) letters ≡ size
unfolding letter_good
place_letter size h = eqb-true _ _ (at_each sizes letter_good letters_good size h)

-- the byte before the last is the count's last digit
decimal_last : (n : ℕ) → (l : List ℕ) × (decimal n ≡ l ++ (digit_of (n % 10) ∷ []))
unfolding digits_in
decimal_last n = go (decimal_width n) refl
  where
    go : (w : ℕ) → decimal_width n ≡ w → (l : List ℕ) × (digits_in 10 (decimal_width n) n ≡ l ++ (digit_of (n % 10) ∷ []))
    go zero e = absurd (omega (arith, decimal_least n, digits_length 10 (decimal_width n) n))
    go (suc w) e = (digits_in 10 w (n / 10), rw e)

pub count_end : (count size : ℕ) → from_end (suffix_text (Lanes count size)) 2 ≡ digit_of (count % 10)
unfolding from_end
count_end count size =
    let (l, e) = decimal_last count in
    rw (e, append_assoc l (digit_of (count % 10) ∷ []) (letter_of size ∷ []))
    (end_append (46 ∷ l) (digit_of (count % 10) ∷ letter_of size ∷ []) 2 (omega arith))

-- which tells Q
q_good : ℕ → ℕ → Bool
q_good size q = eqb (cond (eqb (digit_of (lanes_of q size % 10)) (get_or full_digits size 0)) 1 0) q

q_good_lem : every sizes (λ size. every 2 (q_good size)) ≡ true
unfolding q_good digit_of
q_good_lem = refl

pub count_q : (size q : ℕ) → size < sizes → q < 2 → cond (eqb (digit_of (lanes_of q size % 10)) (get_or full_digits size 0)) 1 0 ≡ q
unfolding q_good
count_q size q hs hq = eqb-true _ _ (at_each 2 (q_good size) (at_each sizes (λ s. every 2 (q_good s)) q_good_lem size hs) q hq)
