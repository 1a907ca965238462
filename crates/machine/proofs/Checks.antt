-- What the checks of a length and of files tell: a legal length lies between the least and the most, and the files have its sizes.
-- Assumes nothing.
use mathlib.Core.Path.{◌≡◌, sym, ◌∙◌}
use mathlib.Core.Bool.{true}
use mathlib.Core.List.{List}
use Prim.Native.Nat.{ℕ, ◌≤◌}
use lib.Dec.{eqb}
use lib.ListN.{length}
use borrow.Author.Tests.{eqb-true, not-false}
use Rattle.parts.proofs.Same.{both_left, both_right}
use Rattle.machine.specs.Size.{is_legal, least_length, most_length, vector_file, predicate_file, Files}
use Rattle.machine.specs.Refusal.{files_tests, refused}
use Rattle.machine.proofs.Tests.{first_none}
use Rattle.machine.proofs.Legal.{legal_exactly}

pub legal_least : (k : ℕ) → is_legal k ≡ true → least_length ≤ k
legal_least k e = ((legal_exactly k).0 e).least

pub legal_most : (k : ℕ) → is_legal k ≡ true → k ≤ most_length
legal_most k e = ((legal_exactly k).0 e).most

-- files that are not refused
pub files_checked : (k : ℕ) (z p : List ℕ) (r : ℕ) → r ≡ refused (files_tests k (length z) (length p)) → r ≡ 0 → Files k z p
files_checked k z p r e h =
    let none = first_none (files_tests k (length z) (length p)) tt (sym e ∙ h) in
    let sizes = not-false _ none.1.0 in
    record {
      legal = not-false _ none.0;
      vector_size = eqb-true _ _ (both_left _ (eqb (length p) (predicate_file k)) sizes);
      predicate_size = eqb-true _ _ (both_right (eqb (length z) (vector_file k)) _ sizes);
    }
