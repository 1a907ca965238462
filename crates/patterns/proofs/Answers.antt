-- The contracts of the calls without a `requires` allow one result.
-- Assumes nothing.
use mathlib.Core.Path.{◌≡◌}
use mathlib.Core.List.{List}
use Prim.Native.Nat.{ℕ}
use Rattle.std.specs.Prelude.{Option}
use Rattle.machine.proofs.Tests.{one_result}
use Rattle.parts.specs.Found.{found}
use Rattle.patterns.specs.Lanes.{pattern_lanes}
use Rattle.patterns.specs.Text.{patterns, pattern_named}

pub pattern_lanes_determined : (pattern count r s : ℕ) → r ≡ pattern_lanes pattern count → s ≡ pattern_lanes pattern count → r ≡ s
pattern_lanes_determined pattern count = one_result (pattern_lanes pattern count)

-- the number of the pattern that a text names is one number
pub named_pattern_determined : (text : List ℕ) (r s : ℕ) → r ≡ pattern_named text → s ≡ pattern_named text → r ≡ s
named_pattern_determined text = one_result (pattern_named text)

pub pattern_named_determined : (text : List ℕ) (r s : Option ℕ) → r ≡ found patterns (pattern_named text) → s ≡ found patterns (pattern_named text) → r ≡ s
pattern_named_determined text = one_result (found patterns (pattern_named text))
