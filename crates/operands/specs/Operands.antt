-- The operands of a word: a register's letter, its number and what follows; which they are, by family; and how they read.
use Rattle.std.specs.Prelude.{ℕ, zero, suc, ◌+◌, ◌*◌, ◌-◌, ◌/◌, ◌^◌, Bool, cond, List, [], ◌∷◌, ◌++◌, get_or}
use Prim.Native.Char.{code}
use Rattle.parts.specs.Text.{bytes}
use Rattle.rows.specs.declared.Family.{Family}
use Rattle.rows.specs.declared.Family.TheVariants.{Low, Wide, Made}
use Rattle.rows.specs.declared.LowFamily.TheVariants.{Reduction, Segment, Long}
use Rattle.rows.specs.declared.WideFamily.TheVariants.{Pairwise, Widening}
use Rattle.words.specs.declared.Fields.{Fields}
use Rattle.digits.specs.Digits.{decimal}
use Rattle.patterns.specs.Text.{pattern_text}
use Rattle.operands.specs.declared.Suffix.{Suffix}
use Rattle.operands.specs.declared.Suffix.TheVariants.{Plain, Lane, Lanes, Merging}
use Rattle.operands.specs.declared.Operand.{Operand}

-- the letter of each size
abbrev pub letters : List ℕ
letters = bytes "bhsd"

unfoldable pub letter_of : ℕ → ℕ
letter_of size = get_or letters size 0

-- how many lanes of a size the low 8 bytes (Q = 0) or 16 bytes (Q = 1) have
abbrev pub lanes_of : ℕ → ℕ → ℕ
lanes_of q size = 8 * 2 ^ q / 2 ^ size

-- what follows a register's number: nothing, the lanes' size, their count and size, or that inactive lanes merge
abbrev pub suffix_text : Suffix → List ℕ
suffix_text Plain = []
suffix_text (Lane size) = code "." ∷ letter_of size ∷ []
suffix_text (Lanes count size) = code "." ∷ decimal count ++ letter_of size ∷ []
suffix_text Merging = bytes "/m"

-- an operand: a register's letter, its number, and what follows; and how it reads
abbrev pub operand : ℕ → ℕ → Suffix → Operand
operand l n s = record { letter = l; number = n; suffix = s }

abbrev pub operand_text : Operand → List ℕ
operand_text o = o.letter ∷ decimal o.number ++ suffix_text o.suffix

-- the destination of a word of a family
abbrev pub destination_operand : Family → Fields → Operand
destination_operand (Low Reduction) f = operand (code "d") f.d Plain
destination_operand (Low Segment) f = operand (code "v") f.d (Lanes (lanes_of 1 f.size) f.size)
destination_operand (Low Long) f = operand (letter_of (f.size + 1)) f.d Plain
destination_operand (Wide wide) f = operand (code "z") f.d (Lane f.size)
destination_operand (Made made) f = operand (code "p") f.d (Lane f.size)

-- the governing predicate of a word of a family; one that makes a predicate has no field for it
abbrev pub governing_operand : Family → Fields → Operand
governing_operand (Low low) f = operand (code "p") f.g Plain
governing_operand (Wide wide) f = operand (code "p") f.g Merging
governing_operand (Made made) f = operand (code "p") f.g Plain

-- the source of this number of a word of a family: in one that writes every lane it has half the width, or the full one where a widening word says so;
-- one that makes a predicate has no field for it
abbrev pub source_operand : Family → Bool → ℕ → Fields → Operand
source_operand (Low Reduction) full number f = operand (code "z") number (Lane f.size)
source_operand (Low Segment) full number f = operand (code "z") number (Lane f.size)
source_operand (Low Long) full number f = operand (code "v") number (Lanes (lanes_of f.q f.size) f.size)
source_operand (Wide Pairwise) full number f = operand (code "z") number (Lane (f.size - 1))
source_operand (Wide Widening) full number f = operand (code "z") number (Lane (cond full f.size (f.size - 1)))
source_operand (Made made) full number f = operand (code "z") number (Lane f.size)

-- a text after others, with a comma and a space before it, where its field has digits; an operand, and a pattern, so written
abbrev pub after_comma : ℕ → List ℕ → List ℕ
after_comma zero text = []
after_comma (suc digits) text = bytes ", " ++ text

abbrev pub further : ℕ → Operand → List ℕ
further digits o = after_comma digits (operand_text o)

abbrev pub further_pattern : ℕ → ℕ → List ℕ
further_pattern digits pattern = after_comma digits (pattern_text pattern)
