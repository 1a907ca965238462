-- The words of the promised theorems: which answers are exact, and what matters to a word that a predicate governs.
use Rattle.std.specs.Prelude.{ℕ, ◌+◌, ◌*◌, ◌≤◌, Bool, true, false, not, cond, leb, ltb, length, ℤ}
use Rattle.registers.specs.State.{State}
use Rattle.lanes.specs.Lane.{width_of}
use Rattle.rows.specs.Table.{form_of}
use Rattle.words.specs.Field.{governing_digits}
use Rattle.words.specs.declared.Fields.{Fields}
use Rattle.rows.specs.declared.Parameters.{Parameters}
use Rattle.rows.specs.declared.Family.{Family}
use Rattle.rows.specs.declared.Family.TheVariants.{Low, Wide, Made}
use Rattle.rows.specs.declared.LowFamily.TheVariants.{Reduction, Segment, Long}
use Rattle.rows.specs.declared.WideFamily.TheVariants.{Pairwise, Widening}
use Rattle.sums.specs.Sums.{Governed, AgreeAt}
use Rattle.meaning.specs.Terms.{Operand2, element_of, half_term, first_term}
use Rattle.meaning.specs.Execute.{operands_of, mask_of}

-- the forms and sizes whose answer, read at its sign, is exact: of the widening family the long sums and the long differences
abbrev pub is_exact : Family → Parameters → ℕ → Bool
is_exact (Low Reduction) ps size = leb size 2
is_exact (Low Segment) ps size = false
is_exact (Low Long) ps size = true
is_exact (Wide Pairwise) ps size = false
is_exact (Wide Widening) ps size = not ps.wide
is_exact (Made made) ps size = false

-- the sign at which an answer is read: its elements' own, but a difference is signed, that of unsigned elements too
abbrev pub answer_signed : Parameters → Bool
answer_signed ps = cond ps.subtract true ps.signed

-- the two elements of lane e of a widening word
abbrev pub element1 : Fields → ℕ → State → ℕ → ℤ
element1 f k s e = element_of (operands_of f k s) (first_term (form_of f.row).parameters (width_of f.size) e)

abbrev pub element2 : Fields → ℕ → State → ℕ → ℤ
element2 f k s e = element_of (operands_of f k s) (half_term Operand2 (form_of f.row).parameters (width_of f.size) e)

-- the families whose words name a governing predicate
abbrev pub is_governed : Family → Bool
is_governed family = ltb 0 (governing_digits family)

-- the first source of a word and the predicate that governs it
abbrev pub governed_of : Fields → ℕ → State → Governed
governed_of f k s = record { predicate = mask_of f k s; register = (operands_of f k s).operand1 }

-- two such agree at every lane of w bytes
abbrev pub Agree : ℕ → Governed → Governed → Type 0
Agree w a b = (i : ℕ) → i * w + w ≤ length a.register → AgreeAt w i a b
