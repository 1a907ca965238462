-- What feeds a lane of the destination: each family lists its terms, beside Arm's pseudocode, and one definition adds them up. Sign, half
-- and width are parameters. Sizes are in bytes: esize is 8·w, and VL is 8·bytes. The mask is P[g].
use Rattle.std.specs.Prelude.{ℕ, ◌+◌, ◌*◌, ◌/◌, ◌^◌, Bool, true, false, cond, List, [], ◌∷◌, map, ℤ, neg_ℤ}
use Rattle.machine.specs.Size.{segment_bytes}
use Rattle.lanes.specs.Lane.{active}
use Rattle.lanes.specs.Sum.{each, element, counted, total}
use Rattle.rows.specs.declared.Parameters.{Parameters}
use Rattle.sums.specs.Panel.{per_segment}

-- the registers that elements are taken from: Z[n], Z[m] and the old Z[d]
pub record Operands : Type 0 where
  pub operand1 : List ℕ
  pub operand2 : List ℕ
  pub old : List ℕ

-- the operand that an element is taken from
pub data Source : Type 0 where
  Operand1 : Source
  Operand2 : Source
  Old : Source

abbrev pub operand_of : Operands → Source → List ℕ
operand_of o Operand1 = o.operand1
operand_of o Operand2 = o.operand2
operand_of o Old = o.old

-- what may feed a lane: an element of some bytes of an operand, by its number, read at its sign, if it is active; added or subtracted
pub record Term : Type 0 where
  pub is_active : Bool
  pub is_subtracted : Bool
  pub source : Source
  pub signed : Bool
  pub width : ℕ
  pub number : ℕ

abbrev pub term : Bool → Source → Bool → ℕ → ℕ → Term
term is_active source signed width number =
    record { is_active = is_active; is_subtracted = false; source = source; signed = signed; width = width; number = number }

-- the same term, subtracted where that is asked
abbrev pub subtracted_where : Bool → Term → Term
subtracted_where subtract t =
    record { is_active = t.is_active; is_subtracted = subtract; source = t.source; signed = t.signed; width = t.width; number = t.number }

-- Int(Elem[operand, e, esize], unsigned)
abbrev pub element_of : Operands → Term → ℤ
element_of o t = element t.signed t.width (operand_of o t.source) t.number

-- an integer, or its negative where it is subtracted
abbrev pub negated_where : Bool → ℤ → ℤ
negated_where subtract z = cond subtract (neg_ℤ z) z

-- what an active term adds: its element, or that one's negative
abbrev pub element_added : Operands → Term → ℤ
element_added o t = negated_where t.is_subtracted (element_of o t)

-- what a term adds: that if it is active, else nothing
abbrev pub added : Operands → Term → ℤ
added o t = counted t.is_active (element_added o t)

-- the exact sum of what feeds a lane
abbrev pub sum_of : Operands → List Term → ℤ
sum_of o ts = total (map (added o) ts)

-- element e of the first operand, if it is active; and one that no predicate governs
abbrev pub governed_term : Bool → ℕ → List ℕ → ℕ → Term
governed_term signed w mask e = term (active w e mask) Operand1 signed w e

abbrev pub free_term : Bool → ℕ → ℕ → Term
free_term signed w e = term true Operand1 signed w e

-- SADDV, UADDV: every element e of the operand, if it is active
abbrev pub reduction_terms : Bool → ℕ → ℕ → List ℕ → List Term
reduction_terms signed w bytes mask = each (governed_term signed w mask) 0 (bytes / w)

-- ADDQV: element e of every segment s, if it is active. The manual's page has lost its indentation: `dtmp = dtmp + ..` could stand outside
-- the test, so that an inactive element added the last active segment's, or outside the loop, so that only one segment was added.
-- The prose decides: the same element numbers of each segment are added, and inactive elements are treated as zero.
abbrev pub segment_terms : ℕ → ℕ → List ℕ → ℕ → List Term
segment_terms w bytes mask e = each (λ s. governed_term false w mask (s * per_segment w + e)) 0 (bytes / segment_bytes)

-- SADDLV, UADDLV: every element of the operand's low 64 << UInt(Q) bits
abbrev pub data_bytes : ℕ → ℕ
data_bytes q = 8 * 2 ^ q

abbrev pub long_terms : Bool → ℕ → ℕ → List Term
long_terms signed w q = each (free_term signed w) 0 (data_bytes q / w)

-- SADALP, UADALP: the old element e, and, if e is active at the full width, both half-width elements that lie in it
abbrev pub pairwise_terms : Bool → ℕ → List ℕ → ℕ → List Term
pairwise_terms signed w mask e =
    term true Old false w e
    ∷ term (active w e mask) Operand1 signed (w / 2) (2 * e + 0)
    ∷ term (active w e mask) Operand1 signed (w / 2) (2 * e + 1)
    ∷ []

-- SADDLB to USUBWT, sixteen words of four parameters. sel is 1 for the top
abbrev pub selected : Bool → ℕ → ℕ
selected top e = 2 * e + cond top 1 0

-- the half-width element 2*e + sel of an operand
abbrev pub half_term : Source → Parameters → ℕ → ℕ → Term
half_term source ps w e = term true source ps.signed (w / 2) (selected ps.top e)

-- element1: that of the first operand, or, in a wide form, its element e
abbrev pub first_term : Parameters → ℕ → ℕ → Term
first_term ps w e = term true Operand1 ps.signed (cond ps.wide w (w / 2)) (cond ps.wide e (selected ps.top e))

-- element1 + element2 or element1 - element2, where element2 is that of the second operand
abbrev pub widening_terms : Parameters → ℕ → ℕ → List Term
widening_terms ps w e = first_term ps w e ∷ subtracted_where ps.subtract (half_term Operand2 ps w e) ∷ []
