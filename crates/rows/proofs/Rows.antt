-- Where `row_of` stops: at the first row that matches, or past the last.
-- Assumes nothing.
use mathlib.Core.Path.{◌≡◌, refl, sym, ◌∙◌, ap}
use mathlib.Core.Bool.{Bool, true, false, not, cond}
use mathlib.Core.List.{List, [], ◌∷◌}
use Prim.Native.Nat.{ℕ, zero, suc, ◌+◌, ◌≤◌, ◌<◌}
use native.Mathlib.Nat.{add-zero, zero-add}
use native.Mathlib.Omega.{arith}
use lib.ListN.{length, get_or, get_or-eq_default}
use Rattle.std.specs.List.{position, position_or_len}
use Rattle.std.proofs.lemmas.List.Sums.{prefix_len-le-length}
use Rattle.parts.specs.Found as sought
use Rattle.rows.specs.Table.{table, no_row, rows, row_at, row_of, matches, place_from}
use Rattle.rows.specs.declared.Row.{Row}

-- a place within a list does not go by the value that stands for what is outside
pub at_any : {A : Type 0} (l : List A) (i : ℕ) (a b : A) → i < length l → get_or l i a ≡ get_or l i b
at_any [] i a b h = absurd (omega arith)
at_any (x ∷ l) zero a b h = refl
at_any (x ∷ l) (suc i) a b h = at_any l i a b (omega arith)

-- a row read from the table at hand
pub row_read : (lines : List Row) (i : ℕ) (outside : Row) → lines ≡ table → i < rows → get_or lines i outside ≡ row_at i
unfolding row_at
row_read lines i outside is h = ap (λ (l : List Row). get_or l i outside) is ∙ at_any table i outside no_row h

-- past the last row the table has the row that stands for none
pub row_past : (i : ℕ) → rows ≤ i → no_row ≡ row_at i
unfolding row_at
row_past i h = sym (get_or-eq_default table no_row h)

-- the place counted from k on is k and the place among the rows, and `row_of` finds the place in the table
place_counted : (rs : List Row) (k word : ℕ) → place_from k rs word ≡ k + position_or_len (λ r. matches r word) rs
unfolding place_from
place_counted [] k word = grind arith
place_counted (r ∷ rs) k word = go (matches r word) (place_counted rs (suc k) word)
  where
    go : (t : Bool) → place_from (suc k) rs word ≡ suc k + position_or_len (λ s. matches s word) rs
        → cond t k (place_from (suc k) rs word) ≡ k + cond (not t) (1 + position_or_len (λ s. matches s word) rs) 0
    go true h = omega arith
    go false h = omega arith

pub row_sought : (lines : List Row) (word : ℕ) → lines ≡ table → position (λ r. matches r word) lines ≡ sought.found rows (row_of word)
unfolding row_of
row_sought lines word is =
    ap (position (λ r. matches r word)) is
    ∙ ap (sought.found rows) (sym (place_counted table 0 word ∙ zero-add _))

-- no place past the number of rows is found
pub row_of_within : (word : ℕ) → row_of word ≤ rows
unfolding row_of
row_of_within word = omega (arith, place_counted table 0 word, prefix_len-le-length (λ r. not (matches r word)) table)

-- the search stops at a row that matches, or past the last
pub found : (rs : List Row) (k word : ℕ)
    → (j : ℕ) × (place_from k rs word ≡ k + j) × (j < length rs → matches (get_or rs j no_row) word ≡ true)
unfolding place_from
found [] k word = (0, sym (add-zero k), λ h. absurd (omega arith))
found (r ∷ rs) k word = go (matches r word) refl (found rs (suc k) word)
  where
    go : (t : Bool) → matches r word ≡ t
        → (j : ℕ) × (place_from (suc k) rs word ≡ suc k + j) × (j < length rs → matches (get_or rs j no_row) word ≡ true)
        → (j : ℕ) × (place_from k (r ∷ rs) word ≡ k + j) × (j < length (r ∷ rs) → matches (get_or (r ∷ rs) j no_row) word ≡ true)
    go true e rest = (0, rw e (sym (add-zero k)), λ h. e)
    go false e rest = (suc rest.0, rw e (rest.1 ∙ omega arith), λ h. rest.2 (omega arith))

-- the search stops no later than at any row that matches
pub no_later : (rs : List Row) (k word i : ℕ) → i < length rs → matches (get_or rs i no_row) word ≡ true → place_from k rs word ≤ k + i
unfolding place_from
no_later [] k word i h e = absurd (omega arith)
no_later (r ∷ rs) k word zero h e = rw e (omega arith)
no_later (r ∷ rs) k word (suc i) h e = go (matches r word) (no_later rs (suc k) word i (omega arith) e)
  where
    go : (t : Bool) → place_from (suc k) rs word ≤ suc k + i → cond t k (place_from (suc k) rs word) ≤ k + suc i
    go true rest = omega arith
    go false rest = omega arith

-- a row that is found matches
pub row_matches : (word : ℕ) → row_of word < rows → matches (row_at (row_of word)) word ≡ true
unfolding row_of row_at
row_matches word h =
    let (j, e, m) = found table 0 word in
    let p : place_from 0 table word ≡ j = e ∙ zero-add j in
    rw p (m (rw p at h))

-- the row that is found is no later than any that matches
pub row_no_later : (word i : ℕ) → i < rows → matches (row_at i) word ≡ true → row_of word ≤ i
unfolding row_of row_at
row_no_later word i h e = rw zero-add at (no_later table 0 word i h e)
