-- The kind of each pattern, by the arms of a match on it; and what a pattern's kind says of its lanes and its text.
-- Assumes nothing.
use Prim.Native.Nat.{ℕ, ◌+◌, ◌≤◌, ◌<◌}
use mathlib.Core.Path.{◌≡◌, refl, sym, ap}
use mathlib.Core.List.{List}
use native.Mathlib.Omega.{arith}
use lib.ListN.{length}
use borrow.Author.Tests.{ne_eqb, le-leb, lt-leb}
use Rattle.digits.specs.Put.{Put}
use Rattle.patterns.specs.Lanes.{PatternKind, power, fixed, multiple, all, none, kind_lanes, doubling, pattern_kind, pattern_lanes}
use Rattle.patterns.specs.Text.{kind_text, pattern_text}

-- patterns 1 to 8, and 9 to 13
pub small_kind : (pattern : ℕ) → 1 ≤ pattern → pattern ≤ 8 → pattern_kind pattern ≡ fixed pattern
unfolding pattern_kind
small_kind pattern low high = rw (ne_eqb pattern 0 (λ e. omega arith), le-leb pattern 8 high)

pub large_kind : (pattern : ℕ) → 9 ≤ pattern → pattern ≤ 13 → pattern_kind pattern ≡ fixed (doubling pattern)
unfolding pattern_kind
large_kind pattern low high = rw (ne_eqb pattern 0 (λ e. omega arith), lt-leb pattern 8 (omega arith), le-leb pattern 13 high)

-- the four that are told by their own number
pub zero_kind : pattern_kind 0 ≡ power
unfolding pattern_kind
zero_kind = refl

pub four_kind : pattern_kind 29 ≡ multiple 4
unfolding pattern_kind
four_kind = refl

pub three_kind : pattern_kind 30 ≡ multiple 3
unfolding pattern_kind
three_kind = refl

pub all_kind : pattern_kind 31 ≡ all
unfolding pattern_kind
all_kind = refl

-- every other
pub other_kind : (pattern : ℕ) → 13 < pattern → (pattern ≡ 29 → ⊥) → (pattern ≡ 30 → ⊥) → (pattern ≡ 31 → ⊥) → pattern_kind pattern ≡ none
unfolding pattern_kind
other_kind pattern low four three every =
    rw (
      ne_eqb pattern 0 (λ e. omega arith),
      lt-leb pattern 8 (omega arith),
      lt-leb pattern 13 low,
      ne_eqb pattern 29 four,
      ne_eqb pattern 30 three,
      ne_eqb pattern 31 every,
    )

-- the lanes and the text of a pattern whose kind is known
pub lanes_of_kind : (pattern : ℕ) {kind : PatternKind} (count : ℕ) → pattern_kind pattern ≡ kind → kind_lanes kind count ≡ pattern_lanes pattern count
unfolding pattern_lanes
lanes_of_kind pattern count e = ap (λ (k : PatternKind). kind_lanes k count) (sym e)

pub text_of_kind : (pattern : ℕ) {kind : PatternKind} → pattern_kind pattern ≡ kind → kind_text kind pattern ≡ pattern_text pattern
unfolding pattern_text
text_of_kind pattern e = ap (λ (k : PatternKind). kind_text k pattern) (sym e)

-- room for a pattern's text is room for that of its kind, and the kind's text written is the pattern's
pub kind_room : (pattern at : ℕ) {kind : PatternKind} {n : ℕ} → pattern_kind pattern ≡ kind → at + length (pattern_text pattern) ≤ n → at + length (kind_text kind pattern) ≤ n
kind_room pattern at e room = rw (text_of_kind pattern e) room

pub kind_put : (pattern : ℕ) {kind : PatternKind} {old new : List ℕ} {at next : ℕ} → pattern_kind pattern ≡ kind → Put old at (kind_text kind pattern) new next
    → Put old at (pattern_text pattern) new next
kind_put pattern e put = rw (← text_of_kind pattern e) put
