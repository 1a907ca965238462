-- The rows' names: what is computed over the table, what it says of each row, and the search for the row that a text's first six bytes name.
-- Assumes nothing.
use Rattle.std.specs.Prelude.{Option, Some, None, not, map}
use Rattle.std.specs.List.{position, position_or_len}
use Rattle.std.specs.Option.{unwrap_or}
use Rattle.std.proofs.lemmas.List.Sums.{prefix_len-le-length}
use mathlib.Core.Path.{◌≡◌, refl, sym, ◌∙◌, ap}
use mathlib.Core.Bool.{Bool, true, false, cond}
use mathlib.Core.List.{List, [], ◌∷◌, ◌++◌}
use Prim.Native.Nat.{ℕ, suc, ◌+◌, ◌≤◌, ◌<◌}
use native.Mathlib.Nat.{zero-add, add-zero}
use native.Mathlib.Omega.{arith}
use lib.Dec.{eqb, leb, ltb}
use lib.ListN.{length, get_or, take}
use borrow.Author.Tests.{ltb-false, eqb-true, leb-true, eq-eqb, ne_eqb}
use Rattle.parts.specs.Found.{found}
use Rattle.parts.specs.Part.{both, same_bytes}
use Rattle.parts.specs.Text.{bytes}
use Rattle.parts.proofs.Same.{both_left, both_right, same_true}
use Rattle.rows.specs.Table.{name_bytes, rows, row_at, table, line_name}
use Rattle.rows.specs.declared.Row.{Row}
use Rattle.rows.proofs.Every.{every, at_each}
use Rattle.names.specs.Text.{key_of, name_of, key_from, row_named}

-- a row's name with its space, from its six bytes: these where they have the space, else these and a space
abbrev pub closed : ℕ → List ℕ
closed row = cond (eqb (get_or (key_of row) 5 0) 32) (key_of row) (key_of row ++ bytes " ")

row_good : ℕ → Bool
row_good row =
    both (eqb (length (key_of row)) name_bytes)
    (both (leb (length (name_of row ++ bytes " ")) 7) (same_bytes (closed row) (name_of row ++ bytes " ")))

rows_good : every rows row_good ≡ true
unfolding row_good key_of name_of row_at
rows_good = refl

-- a row's six bytes, and its name with its space
pub record Good (row : ℕ) : Type 0 where
  pub key : length (key_of row) ≡ name_bytes
  pub name : length (name_of row ++ bytes " ") ≤ 7
  pub spaced : closed row ≡ name_of row ++ bytes " "

pub row_good_lem : (row : ℕ) → row < rows → Good row
unfolding row_good
row_good_lem row h =
    let e = at_each rows row_good rows_good row h in
    let rest = both_right (eqb (length (key_of row)) name_bytes) _ e in
    record {
      key = eqb-true _ _ (both_left _ _ e);
      name = leb-true _ _ (both_left _ _ rest);
      spaced = same_true _ _ (both_right (leb (length (name_of row ++ bytes " ")) 7) _ rest);
    }

-- a name of five letters, and one of six
pub name_five : (row : ℕ) → row < rows → get_or (key_of row) 5 0 ≡ 32 → name_of row ++ bytes " " ≡ key_of row
name_five row h e = sym (row_good_lem row h).spaced ∙ rw (eq-eqb _ _ e)

pub name_six : (row : ℕ) → row < rows → (get_or (key_of row) 5 0 ≡ 32 → ⊥) → name_of row ++ bytes " " ≡ key_of row ++ bytes " "
name_six row h e = sym (row_good_lem row h).spaced ∙ rw (ne_eqb _ _ e)

-- the place of the row that a text names is one number
pub named_place_determined : (text : List ℕ) (r s : ℕ) → r ≡ row_named text → s ≡ row_named text → r ≡ s
named_place_determined text r s p q = p ∙ sym q

-- two results that the contract of `row_named` allows are the same
pub row_named_determined : (text : List ℕ) (r s : Option ℕ) → r ≡ found rows (row_named text) → s ≡ found rows (row_named text) → r ≡ s
row_named_determined text r s p q = p ∙ sym q

-- the place of a key, counted from i, among those of some lines
key_place : (i : ℕ) (lines : List Row) (bytes : List ℕ)
    → key_from i (map line_name lines) bytes ≡ i + position_or_len (λ line. same_bytes (line_name line) bytes) lines
unfolding key_from
key_place i [] bytes = sym (add-zero i)
key_place i (line ∷ lines) bytes = go (same_bytes (line_name line) bytes) (key_place (suc i) lines bytes)
  where
    go : (t : Bool) → key_from (suc i) (map line_name lines) bytes ≡ suc i + position_or_len (λ line. same_bytes (line_name line) bytes) lines
        → cond t i (key_from (suc i) (map line_name lines) bytes) ≡ i + cond (not t) (1 + position_or_len (λ line. same_bytes (line_name line) bytes) lines) 0
    go true e = sym (add-zero i)
    go false e = e ∙ omega arith

-- so the row that is named is the line whose name a text's first six bytes are
pub row_placed : (text : List ℕ) → position (λ (line : Row). same_bytes (line_name line) (take name_bytes text)) table ≡ found rows (row_named text)
unfolding row_named
row_placed text = ap (found rows) (sym (key_place 0 table (take name_bytes text) ∙ zero-add _))

-- it is the number of rows where none is found
pub row_else : (text : List ℕ) → unwrap_or (found rows (row_named text)) rows ≡ row_named text
unfolding row_named
row_else text = go (row_named text) most
  where
    most : row_named text ≤ rows
    most = omega (arith, key_place 0 table (take name_bytes text), prefix_len-le-length (λ (line : Row). not (same_bytes (line_name line) (take name_bytes text))) table)

    go : (n : ℕ) → n ≤ rows → unwrap_or (found rows n) rows ≡ n
    go n h = by (ltb n rows) refl
      where
        by : (t : Bool) → ltb n rows ≡ t → unwrap_or (cond t (Some n) None) rows ≡ n
        by true e = refl
        by false e = let least : rows ≤ n = ltb-false n rows e in omega arith
