-- The texts of the patterns: what is computed over the thirty-two, what it says of each, and the search for the pattern that a text names.
-- Assumes nothing.
use Prim.Native.Nat.{ℕ, zero, suc, ◌+◌, ◌≤◌, ◌<◌}
use mathlib.Core.Path.{◌≡◌, refl, ◌∙◌, ap}
use mathlib.Core.Bool.{Bool, true, false, cond}
use mathlib.Core.List.{List, [], ◌∷◌}
use native.Mathlib.Omega.{arith}
use native.Mathlib.Numerals.{add-one}
use lib.Dec.{eqb, leb}
use lib.ListN.{length}
use borrow.Author.Tests.{eqb-true, leb-true}
use Rattle.std.specs.Prelude.{Some}
use Rattle.std.specs.List.{find, range_with_len}
use Rattle.parts.specs.Found.{found}
use Rattle.parts.specs.Part.{both, same_bytes}
use Rattle.parts.proofs.Same.{both_left, both_right, same_true}
use Rattle.digits.specs.Digits.{digit_of, digits_in, width_within, decimal_width}
use Rattle.rows.proofs.Every.{every, at_each}
use Rattle.patterns.specs.Lanes.{pattern_kind}
use Rattle.patterns.specs.Text.{patterns, pattern_text, named_from, pattern_named}

-- bytes with no space among them
abbrev pub spaceless : List ℕ → Bool
spaceless [] = true
spaceless (b ∷ l) = cond (eqb b 32) false (spaceless l)

text_good : ℕ → Bool
text_good n = both (eqb (pattern_named (pattern_text n)) n) (both (leb (length (pattern_text n)) 5) (spaceless (pattern_text n)))

texts_good : every patterns text_good ≡ true
unfolding text_good pattern_named named_from pattern_text pattern_kind digit_of digits_in width_within decimal_width
texts_good = refl

-- a pattern's text names the pattern, has five bytes at most, and no space among them
module _ (n : ℕ) (h : n < patterns) where
  pub named_text : pattern_named (pattern_text n) ≡ n
  unfolding text_good
  named_text = eqb-true _ _ (both_left _ _ (at_each patterns text_good texts_good n h))

  short_free : both (leb (length (pattern_text n)) 5) (spaceless (pattern_text n)) ≡ true
  unfolding text_good
  short_free = both_right (eqb (pattern_named (pattern_text n)) n) _ (at_each patterns text_good texts_good n h)

  pub text_short : length (pattern_text n) ≤ 5
  text_short = leb-true _ _ (both_left _ _ short_free)

  pub text_free : spaceless (pattern_text n) ≡ true
  text_free = both_right (leb (length (pattern_text n)) 5) _ short_free

-- the first of so many patterns from one on whose text it is, is the one that the search finds, and none where it finds none of them
sought_from : (left pattern : ℕ) (text : List ℕ)
    → find (λ n. same_bytes (pattern_text n) text) (range_with_len pattern left) ≡ found (pattern + left) (named_from left pattern text)
unfolding named_from
sought_from zero pattern text = grind arith
sought_from (suc left) pattern text = rw add-one (go (same_bytes (pattern_text pattern) text) (sought_from left (suc pattern) text))
  where
    go : (t : Bool) → find (λ n. same_bytes (pattern_text n) text) (range_with_len (suc pattern) left) ≡ found (suc pattern + left) (named_from left (suc pattern) text)
        → cond t (Some pattern) (find (λ n. same_bytes (pattern_text n) text) (range_with_len (suc pattern) left))
        ≡ found (pattern + suc left) (cond t pattern (named_from left (suc pattern) text))
    go true h = grind arith
    go false h = h ∙ ap (λ (count : ℕ). found count (named_from left (suc pattern) text)) (omega arith)

pub pattern_sought : (text : List ℕ) → find (λ n. same_bytes (pattern_text n) text) (range_with_len 0 patterns) ≡ found patterns (pattern_named text)
unfolding pattern_named
pattern_sought text = sought_from patterns 0 text

-- what the search finds among so many patterns is one whose text it is; past them it finds none
named_from_lem : (left pattern : ℕ) (text : List ℕ) → named_from left pattern text < pattern + left → pattern_text (named_from left pattern text) ≡ text
unfolding named_from
named_from_lem zero pattern text h = absurd (omega arith)
named_from_lem (suc left) pattern text h = go (same_bytes (pattern_text pattern) text) refl h (λ b. named_from_lem left (suc pattern) text b)
  where
    go : (t : Bool) → same_bytes (pattern_text pattern) text ≡ t → cond t pattern (named_from left (suc pattern) text) < pattern + suc left
        → (named_from left (suc pattern) text < suc pattern + left → pattern_text (named_from left (suc pattern) text) ≡ text)
        → pattern_text (cond t pattern (named_from left (suc pattern) text)) ≡ text
    go true e b rest = same_true (pattern_text pattern) text e
    go false e b rest = rest (omega arith)

pub named_only : (text : List ℕ) → pattern_named text < patterns → pattern_text (pattern_named text) ≡ text
unfolding pattern_named
named_only text h = named_from_lem patterns 0 text h

named_within : (left pattern : ℕ) (text : List ℕ) → named_from left pattern text ≤ pattern + left
unfolding named_from
named_within zero pattern text = omega arith
named_within (suc left) pattern text = go (same_bytes (pattern_text pattern) text) (named_within left (suc pattern) text)
  where
    go : (t : Bool) → named_from left (suc pattern) text ≤ suc pattern + left → cond t pattern (named_from left (suc pattern) text) ≤ pattern + suc left
    go true h = omega arith
    go false h = omega arith

pub named_bounded : (text : List ℕ) → pattern_named text ≤ patterns
unfolding pattern_named
named_bounded text = named_within patterns 0 text
