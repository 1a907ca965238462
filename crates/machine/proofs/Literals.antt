-- The paper's numbers beside the names that stand for them: the refusals in the order of its table, the order in which they are tested, and the sizes at the
-- least length and the most.
-- Assumes nothing.
use Prim.Native.Nat.{◌*◌}
use mathlib.Core.Path.{◌≡◌, refl}
use mathlib.Core.Bool.{true}
use mathlib.Core.List.{List, [], ◌∷◌, map}
use Rattle.machine.specs.Size.{least_length, most_length, lengths, vectors, predicates, governing, vector_file, predicate_file, word_bytes, most_words}
use Rattle.machine.specs.Refusal.{DONE, LENGTH, FILE, PROGRAM, ROOM, JOURNAL, END, UNKNOWN, UNDEFINED, FULL, EMPTY, OUT, TEXT, RANGE, SESSION, Test, test, out_test, in_order}

-- done and the fourteen refusals
pub numbers_literal : DONE ∷ LENGTH ∷ FILE ∷ PROGRAM ∷ ROOM ∷ JOURNAL ∷ END ∷ UNKNOWN ∷ UNDEFINED ∷ FULL ∷ EMPTY ∷ OUT ∷ TEXT ∷ RANGE ∷ SESSION ∷ []
    ≡ 0 ∷ 1 ∷ 2 ∷ 3 ∷ 4 ∷ 5 ∷ 6 ∷ 7 ∷ 8 ∷ 9 ∷ 10 ∷ 11 ∷ 12 ∷ 13 ∷ 14 ∷ []
numbers_literal = refl

-- a test of each refusal, OUT's before those of 7 and 8
abbrev pub every_test : List Test
every_test =
    test LENGTH true
    ∷ test FILE true
    ∷ test PROGRAM true
    ∷ test ROOM true
    ∷ test JOURNAL true
    ∷ test END true
    ∷ out_test true
    ∷ test UNKNOWN true
    ∷ test UNDEFINED true
    ∷ test FULL true
    ∷ test EMPTY true
    ∷ test TEXT true
    ∷ test RANGE true
    ∷ test SESSION true
    ∷ []

-- their numbers, which stand in order
pub order_literal : map (λ (t : Test). t.1) every_test ≡ 1 ∷ 2 ∷ 3 ∷ 4 ∷ 5 ∷ 6 ∷ 11 ∷ 7 ∷ 8 ∷ 9 ∷ 10 ∷ 12 ∷ 13 ∷ 14 ∷ []
order_literal = refl

pub every_in_order : in_order every_test ≡ true
every_in_order = refl

-- the lengths; the registers of both kinds, and those that govern; the bytes of both files and of the longest program
pub lengths_literal : lengths ≡ 1 ∷ 2 ∷ 4 ∷ 8 ∷ 16 ∷ []
lengths_literal = refl

pub registers_literal : vectors ∷ predicates ∷ governing ∷ [] ≡ 32 ∷ 16 ∷ 8 ∷ []
registers_literal = refl

pub sizes_literal : vector_file least_length ∷ predicate_file least_length ∷ vector_file most_length ∷ predicate_file most_length ∷ word_bytes * most_words ∷ []
    ≡ 512 ∷ 32 ∷ 8192 ∷ 512 ∷ 1024 ∷ []
sizes_literal = refl
