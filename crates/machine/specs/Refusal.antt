-- The refusals: their numbers, the order in which they are tested, and the tests that several calls share.
use Rattle.std.specs.Prelude.{Result, Ok, Err, ℕ, zero, suc, ◌+◌, ◌*◌, ◌≡◌, ◌⊎◌, Bool, true, false, not, cond, List, [], ◌∷◌, ◌++◌, eqb, ltb}
use Rattle.parts.specs.Part.{both}
use Rattle.machine.specs.declared.refusal.Refusal.{Refusal}
use Rattle.machine.specs.declared.refusal.Refusal.TheVariants.{Length, File, Program, Room, Journal, End, Unknown, Undefined, Full, Empty, Out, Text, Range, Session}
use Rattle.machine.specs.Size.{is_legal, vector_file, predicate_file, is_program}

-- done, and the fourteen refusals
abbrev pub DONE : ℕ
DONE = 0

abbrev pub LENGTH : ℕ
LENGTH = 1

abbrev pub FILE : ℕ
FILE = 2

abbrev pub PROGRAM : ℕ
PROGRAM = 3

abbrev pub ROOM : ℕ
ROOM = 4

abbrev pub JOURNAL : ℕ
JOURNAL = 5

abbrev pub END : ℕ
END = 6

abbrev pub UNKNOWN : ℕ
UNKNOWN = 7

abbrev pub UNDEFINED : ℕ
UNDEFINED = 8

abbrev pub FULL : ℕ
FULL = 9

abbrev pub EMPTY : ℕ
EMPTY = 10

abbrev pub OUT : ℕ
OUT = 11

abbrev pub TEXT : ℕ
TEXT = 12

abbrev pub RANGE : ℕ
RANGE = 13

abbrev pub SESSION : ℕ
SESSION = 14

-- the number of each refusal
abbrev pub code : Refusal → ℕ
code Length = LENGTH
code File = FILE
code Program = PROGRAM
code Room = ROOM
code Journal = JOURNAL
code End = END
code Unknown = UNKNOWN
code Undefined = UNDEFINED
code Full = FULL
code Empty = EMPTY
code Out = OUT
code Text = TEXT
code Range = RANGE
code Session = SESSION

-- the number that a call is answered with: that of done, or its refusal's
abbrev pub answered : {X : Type 0} → Result X Refusal → ℕ
answered (Ok x) = DONE
answered (Err r) = code r

-- a test that a call makes: its place in the order, the refusal's number, and whether its case is given
abbrev pub Test : Type 0
Test = ℕ × ℕ × Bool

-- the test of a number at a place of its own; places are ten apart, so that another test of any number can stand between two
abbrev pub test_at : ℕ → ℕ → Bool → Test
test_at place n given = (place, n, given)

-- the test of a number at its usual place: the refusals are tested in the order of their numbers
abbrev pub test : ℕ → Bool → Test
test n given = test_at (10 * n) n given

-- the test of an output that is too short: OUT has a place before UNKNOWN and UNDEFINED
abbrev pub out_test : Bool → Test
out_test short = test_at (10 * END + 5) OUT short

-- tests in the paper's order: each stands at a later place than the one before it
abbrev pub in_order : List Test → Bool
in_order [] = true
in_order (t ∷ []) = true
in_order (t ∷ u ∷ ts) = both (ltb t.0 u.0) (in_order (u ∷ ts))

-- the number of the first test whose case is given; where none is, what comes after them
abbrev pub first : List Test → ℕ → ℕ
first [] after = after
first (t ∷ ts) after = cond t.2 t.1 (first ts after)

-- what a call that makes these tests answers: the first refusal, or DONE
abbrev pub refused : List Test → ℕ
refused ts = first ts DONE

-- of no test is the case given
abbrev pub None : List Test → Type 0
None [] = Unit {0}
None (t ∷ ts) = (t.2 ≡ false) × None ts

-- of some tests, the case of one with this number is given, and of none before it
abbrev pub First : List Test → ℕ → Type 0
First [] n = ⊥
First (t ∷ ts) n = ((t.2 ≡ true) × (t.1 ≡ n)) ⊎ ((t.2 ≡ false) × First ts n)

-- tests that are made only where something holds
abbrev pub only_where : Bool → List Test → List Test
only_where b [] = []
only_where b (t ∷ ts) = test_at t.0 t.1 (both b t.2) ∷ only_where b ts

-- the test of a length: k is no legal one
abbrev pub length_tests : ℕ → List Test
length_tests k = test LENGTH (not (is_legal k)) ∷ []

-- the tests of a length and of both files: k is no legal length, or the files' sizes z and p are not those of k
abbrev pub files_tests : ℕ → ℕ → ℕ → List Test
files_tests k z p = length_tests k ++ test FILE (not (both (eqb z (vector_file k)) (eqb p (predicate_file k)))) ∷ []

-- the test of a program: its n bytes are not whole words, or too many
abbrev pub program_tests : ℕ → List Test
program_tests n = test PROGRAM (not (is_program n)) ∷ []

-- the test of a number or of a range: it is outside what there is
abbrev pub range_test : Bool → Test
range_test outside = test RANGE outside

-- of two things, the first where the number is DONE, the second where it is a refusal's
abbrev pub unless_refused : {X : Type 0} → ℕ → X → X → X
unless_refused zero done other = done
unless_refused (suc n) done other = other

-- what a call with a value is answered with: the number, and the value, which is 0 with a refusal
pub record Answer : Type 0 where
  pub number : ℕ
  pub value : ℕ

abbrev pub answer_of : Result ℕ Refusal → Answer
answer_of (Ok v) = record { number = DONE; value = v }
answer_of (Err r) = record { number = code r; value = 0 }

-- a call's answer: the refusal of its tests with 0, or DONE with the value
abbrev pub answer : ℕ → ℕ → Answer
answer n v = record { number = n; value = unless_refused n v 0 }
