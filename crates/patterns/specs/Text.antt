-- How a pattern reads, and which pattern some bytes are the text of.
use Rattle.std.specs.Prelude.{ℕ, zero, suc, cond, List, ◌++◌}
use Rattle.parts.specs.Part.{same_bytes}
use Rattle.parts.specs.Text.{bytes}
use Rattle.digits.specs.Digits.{decimal}
use Rattle.patterns.specs.Lanes.{PatternKind, power, fixed, multiple, all, none, pattern_kind}

-- how many patterns there are
abbrev pub patterns : ℕ
patterns = 32

-- the name of a kind in the manual, in lower case; `#` and the pattern's number for a kind that has none
abbrev pub kind_text : PatternKind → ℕ → List ℕ
kind_text power pattern = bytes "pow2"
kind_text (fixed n) pattern = bytes "vl" ++ decimal n
kind_text (multiple n) pattern = bytes "mul" ++ decimal n
kind_text all pattern = bytes "all"
kind_text none pattern = bytes "#" ++ decimal pattern

-- how a pattern reads
unfoldable pub pattern_text : ℕ → List ℕ
pattern_text pattern = kind_text (pattern_kind pattern) pattern

-- the first of so many patterns from one on whose text some bytes are; the one after them where none is
unfoldable pub named_from : ℕ → ℕ → List ℕ → ℕ
named_from zero pattern text = pattern
named_from (suc left) pattern text = cond (same_bytes (pattern_text pattern) text) pattern (named_from left (suc pattern) text)

-- the pattern whose text some bytes are; 32 where they are of none
unfoldable pub pattern_named : List ℕ → ℕ
pattern_named text = named_from patterns 0 text
