-- What each word writes to its destination: how many lanes of which width, and in each the low digits of the sum of what feeds it.
use Rattle.std.specs.Prelude.{ℕ, ◌*◌, ◌/◌, List, []}
use Rattle.parts.specs.Number.{bits_of}
use Rattle.lanes.specs.Lane.{from_lanes}
use Rattle.lanes.specs.Integer.{residue}
use Rattle.sums.specs.Panel.{per_segment}
use Rattle.rows.specs.declared.Parameters.{Parameters}
use Rattle.rows.specs.declared.Family.{Family}
use Rattle.rows.specs.declared.Family.TheVariants.{Low, Wide, Made}
use Rattle.rows.specs.declared.LowFamily.{LowFamily}
use Rattle.rows.specs.declared.LowFamily.TheVariants.{Reduction, Segment, Long}
use Rattle.rows.specs.declared.WideFamily.{WideFamily}
use Rattle.rows.specs.declared.WideFamily.TheVariants.{Pairwise, Widening}
use Rattle.meaning.specs.Terms.{Operands, Term, sum_of, reduction_terms, segment_terms, long_terms, pairwise_terms, widening_terms}

-- what feeds lane e, of the families that write the low bytes
abbrev pub low_terms : LowFamily → Parameters → ℕ → ℕ → ℕ → List ℕ → ℕ → List Term
low_terms Reduction ps w q bytes mask e = reduction_terms ps.signed w bytes mask
low_terms Segment ps w q bytes mask e = segment_terms w bytes mask e
low_terms Long ps w q bytes mask e = long_terms ps.signed w q

-- of those that write every lane
abbrev pub wide_terms : WideFamily → Parameters → ℕ → List ℕ → ℕ → List Term
wide_terms Pairwise ps w mask e = pairwise_terms ps.signed w mask e
wide_terms Widening ps w mask e = widening_terms ps w e

-- of every family; nothing feeds a predicate that is made
abbrev pub family_terms : Family → Parameters → ℕ → ℕ → ℕ → List ℕ → ℕ → List Term
family_terms (Low low) ps w q bytes mask e = low_terms low ps w q bytes mask e
family_terms (Wide wide) ps w q bytes mask e = wide_terms wide ps w mask e
family_terms (Made made) ps w q bytes mask e = []

-- the bytes of a lane that is written: V[d, 64], V[d, 2*esize], and else the element's
abbrev pub low_width : LowFamily → ℕ → ℕ
low_width Reduction w = 8
low_width Segment w = w
low_width Long w = 2 * w

abbrev pub width_after : Family → ℕ → ℕ
width_after (Low low) w = low_width low w
width_after (Wide wide) w = w
width_after (Made made) w = w

-- how many lanes of a vector are written: one, those of a segment, those of the whole register, or none by a word that makes a predicate
abbrev pub low_lanes : LowFamily → ℕ → ℕ
low_lanes Reduction w = 1
low_lanes Segment w = per_segment w
low_lanes Long w = 1

abbrev pub lanes_after : Family → ℕ → ℕ → ℕ
lanes_after (Low low) w bytes = low_lanes low w
lanes_after (Wide wide) w bytes = bytes / w
lanes_after (Made made) w bytes = 0

-- the lanes that are written, each the low digits of the exact sum of what feeds it
abbrev pub family_written : Family → ℕ → ℕ → Operands → (ℕ → List Term) → List ℕ
family_written family w bytes o terms =
    from_lanes (width_after family w) 0 (lanes_after family w bytes) (λ (e : ℕ). residue (bits_of (width_after family w)) (sum_of o (terms e)))
