-- A panel filled row by row into zeros: the rows past the register's end stay zero.
-- Assumes nothing.
use Rattle.std.proofs.Common.{◌≡◌, ℕ, zero, suc, ◌+◌, ◌-◌, ◌*◌, ◌<◌, ◌≤◌, List, ◌∷◌, ◌++◌, length, take, drop, set, replicate, sym, refl, ap, ◌∙◌, add-one, arith, length-drop, take-append-drop, drop-drop, take-suc-set, drop-set-lt, le-ltb, lt-ltb}
use lib.ListN.{length-replicate}
use lib.Seq.{append_snoc}
use Rattle.machine.specs.Size.{segment_bytes, most_length}
use Rattle.sums.specs.Panel.{panel_row, panel_from, panel_of}

-- a row of zeros
abbrev pub no_row : List ℕ
no_row = replicate segment_bytes 0

module _ (w : ℕ) (predicate register : List ℕ) where
  -- a row of the register's segments
  pub panel_row_lem : (s n : ℕ) → s * segment_bytes < length register
      → panel_from w predicate register s (suc n) ≡ panel_row w predicate register s ∷ panel_from w predicate register (suc s) n
  unfolding panel_from
  panel_row_lem s n h = rw (lt-ltb (s * segment_bytes) (length register) h)

  -- past the register's end all rows are zero
  pub panel_past : (s n : ℕ) → length register ≤ s * segment_bytes → panel_from w predicate register s n ≡ replicate n no_row
  unfolding panel_from
  panel_past s zero h = refl
  panel_past s (suc n) h =
      rw (le-ltb (s * segment_bytes) (length register) h)
      (ap (λ (rows : List (List ℕ)). no_row ∷ rows) (panel_past (suc s) n (omega arith)))

  -- the rows below s are the panel's, and those from s on are zero
  abbrev pub Filled : ℕ → List (List ℕ) → Type 0
  Filled s rows =
      (take s rows ++ panel_from w predicate register s (most_length - s) ≡ panel_of w predicate register)
      × (drop s rows ≡ replicate (most_length - s) no_row)

  -- before the first row is filled, all rows are zero
  pub filled_none : Filled 0 (replicate most_length no_row)
  unfolding panel_of
  filled_none = (refl, refl)

  -- there is a row to fill
  pub filled_length : (s : ℕ) (rows : List (List ℕ)) → s < most_length → Filled s rows → s < length rows
  filled_length s rows h f = omega (arith, length-drop s rows, ap length f.1, length-replicate (most_length - s) no_row)

  -- with the row of segment s filled, the rows below s + 1 are the panel's
  pub filled_next : (s : ℕ) (rows : List (List ℕ)) → s < most_length → s * segment_bytes < length register → Filled s rows
      → Filled (s + 1) (set rows s (panel_row w predicate register s))
  filled_next s rows h k f =
      rw (add-one s) (
        rw (take-suc-set rows s (panel_row w predicate register s) (filled_length s rows h f))
            (append_snoc (take s rows) (panel_row w predicate register s) (panel_from w predicate register (suc s) (most_length - suc s))
            ∙ ap (λ (l : List (List ℕ)). take s rows ++ l) (sym (ap (panel_from w predicate register s) more ∙ panel_row_lem s (most_length - suc s) k))
            ∙ f.0),
        drop-set-lt (suc s) rows s (panel_row w predicate register s) (omega arith)
            ∙ sym (drop-drop 1 s rows ∙ ap (λ (n : ℕ). drop n rows) (add-one s))
            ∙ ap (drop 1) f.1
            ∙ ap (λ (n : ℕ). drop 1 (replicate n no_row)) more,
      )
    where
      more : most_length - s ≡ suc (most_length - suc s)
      more = omega arith

  -- after the last segment all rows are the panel's
  pub filled_all : (s : ℕ) (rows : List (List ℕ)) → length register ≤ s * segment_bytes → Filled s rows → rows ≡ panel_of w predicate register
  filled_all s rows h f =
      sym (take-append-drop s rows)
      ∙ ap (λ (l : List (List ℕ)). take s rows ++ l) (f.1 ∙ sym (panel_past s (most_length - s) h))
      ∙ f.0
