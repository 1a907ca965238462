-- At most one row matches any word: a test computed over all pairs of rows, turned into the rule for every word.
-- Assumes nothing.
use mathlib.Core.Path.{◌≡◌, refl, sym, ◌∙◌, ap}
use mathlib.Core.Bool.{Bool, true, false, not, cond}
use Prim.Native.Nat.{ℕ, ◌<◌}
use native.Mathlib.Nat.{lt_of_le_of_lt}
use lib.Dec.{eqb}
use lib.ListN.{length}
use borrow.Author.Tests.{eq-eqb, eqb-true}
use Rattle.rows.specs.Digits.{digits_and, word_digits}
use Rattle.rows.specs.Table.{line_mask, line_value, table, rows, row_at, row_of, matches}
use Rattle.rows.specs.declared.Row.{Row}
use Rattle.rows.proofs.Digits.{and_swap}
use Rattle.rows.proofs.Every.{every, at_each}
use Rattle.rows.proofs.Rows.{row_matches, row_no_later}

-- the table has as many rows as `rows` says
pub rows_counted : length table ≡ rows
rows_counted = refl

-- two rows whose values differ within the digits that both masks have
unfoldable pub apart : Row → Row → Bool
apart r s = not (eqb (digits_and word_digits (line_value r) (line_mask s)) (digits_and word_digits (line_value s) (line_mask r)))

-- the rows at two places are one row or stand apart
unfoldable pub one_or_apart : ℕ → ℕ → Bool
one_or_apart i j = cond (eqb i j) true (apart (row_at i) (row_at j))

-- at all pairs of places of the table the rows are one row or stand apart
pub all_apart : every rows (λ i. every rows (one_or_apart i)) ≡ true
unfolding one_or_apart apart digits_and row_at
all_apart = refl

pair_apart : (i j : ℕ) → i < rows → j < rows → one_or_apart i j ≡ true
pair_apart i j hi hj = at_each rows (one_or_apart i) (at_each rows (λ k. every rows (one_or_apart k)) all_apart i hi) j hj

-- two rows that match one word do not stand apart
not_apart : (r s : Row) (word : ℕ) → matches r word ≡ true → matches s word ≡ true → apart r s ≡ false
unfolding matches apart
not_apart r s word e f =
    ap not
    (eq-eqb _ _
    (ap (λ (v : ℕ). digits_and word_digits v (line_mask s)) (sym (eqb-true _ _ e))
    ∙ and_swap word_digits word (line_mask r) (line_mask s)
    ∙ ap (λ (v : ℕ). digits_and word_digits v (line_mask r)) (eqb-true _ _ f)))

-- no word matches two rows
pub at_most_one_row : (i j word : ℕ) → i < rows → j < rows → matches (row_at i) word ≡ true → matches (row_at j) word ≡ true → i ≡ j
unfolding one_or_apart
at_most_one_row i j word hi hj e f = go (eqb i j) refl (pair_apart i j hi hj)
  where
    go : (t : Bool) → eqb i j ≡ t → cond (eqb i j) true (apart (row_at i) (row_at j)) ≡ true → i ≡ j
    go true p q = eqb-true i j p
    go false p q = cc (not_apart (row_at i) (row_at j) word e f)

-- the row that matches is the one that `row_of` finds
pub row_found : (i word : ℕ) → i < rows → matches (row_at i) word ≡ true → row_of word ≡ i
row_found i word h e =
    let below = lt_of_le_of_lt (row_no_later word i h e) h in
    at_most_one_row (row_of word) i word below h (row_matches word below) e
