-- What the calls for the panel and for a subtotal answer, for every input.
use Rattle.std.specs.Prelude.{ℕ, ◌+◌, ◌*◌, ◌/◌, Bool, not, List, [], ◌∷◌, ◌++◌, ltb, leb, length}
use Rattle.machine.specs.Size.{vectors, governing, sizes, vector_bytes}
use Rattle.registers.specs.Register.{vector_of, predicate_of}
use Rattle.parts.specs.Part.{both}
use Rattle.machine.specs.Refusal.{RANGE, Test, test_at, refused, files_tests, range_test, unless_refused, answer}
use Rattle.machine.specs.Refusal.{Answer}
use Rattle.lanes.specs.Lane.{width_of}
use Rattle.sums.specs.Sums.{lane_sum}
use Rattle.sums.specs.Panel.{panel_of, no_panel}

-- a source register, a governing predicate and a size that there are
abbrev pub in_range : ℕ → ℕ → ℕ → Bool
in_range source predicate size = both (ltb source vectors) (both (ltb predicate governing) (ltb size sizes))

-- the tests of a panel, and its refusal: LENGTH, FILE, RANGE or DONE
abbrev pub panel_tests : ℕ → List ℕ → List ℕ → ℕ → ℕ → ℕ → List Test
panel_tests k z p source predicate size =
    files_tests k (length z) (length p) ++ range_test (not (in_range source predicate size)) ∷ []

abbrev pub panel_refused : ℕ → List ℕ → List ℕ → ℕ → ℕ → ℕ → ℕ
panel_refused k z p source predicate size = refused (panel_tests k z p source predicate size)

-- the panel, or zeros where it is refused
abbrev pub panel_answer : ℕ → List ℕ → List ℕ → ℕ → ℕ → ℕ → List (List ℕ)
panel_answer k z p source predicate size =
    unless_refused (panel_refused k z p source predicate size) (panel_of (width_of size) (predicate_of k predicate p) (vector_of k source z)) no_panel

-- how many lanes of a size a vector has
abbrev pub lanes_at : ℕ → ℕ → ℕ
lanes_at k size = vector_bytes k / width_of size

-- a range of lanes that the register has
abbrev pub lane_range : ℕ → ℕ → ℕ → ℕ → Bool
lane_range k size a b = both (leb a b) (leb b (lanes_at k size))

-- the tests of a subtotal, which are those of a panel and the range of its lanes, and its refusal: LENGTH, FILE, RANGE or DONE
abbrev pub subtotal_tests : ℕ → List ℕ → List ℕ → ℕ → ℕ → ℕ → ℕ → ℕ → List Test
subtotal_tests k z p source predicate size a b =
    panel_tests k z p source predicate size ++ test_at (10 * RANGE + 1) RANGE (not (lane_range k size a b)) ∷ []

abbrev pub subtotal_refused : ℕ → List ℕ → List ℕ → ℕ → ℕ → ℕ → ℕ → ℕ → ℕ
subtotal_refused k z p source predicate size a b = refused (subtotal_tests k z p source predicate size a b)

-- the subtotal of the active lanes from a up to but without b, or its refusal with 0
abbrev pub subtotal_answer : ℕ → List ℕ → List ℕ → ℕ → ℕ → ℕ → Bool → ℕ → ℕ → Answer
subtotal_answer k z p source predicate size signed a b =
    answer (subtotal_refused k z p source predicate size a b)
    (lane_sum signed (width_of size) a b (predicate_of k predicate p) (vector_of k source z))
