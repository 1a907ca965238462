-- The panel written to a lent output: its rows one after the other, and the bytes past them as they stood.
use Rattle.std.specs.Prelude.{ℕ, ◌*◌, ◌≡◌, not, List, [], ◌∷◌, ◌++◌, ltb, length}
use Rattle.parts.specs.Part.{laid}
use Rattle.machine.specs.Size.{segment_bytes, most_length}
use Rattle.machine.specs.Refusal.{Test, out_test, range_test, files_tests, refused, unless_refused}
use Rattle.registers.specs.Register.{vector_of, predicate_of}
use Rattle.lanes.specs.Lane.{width_of}
use Rattle.sums.specs.Panel.{panel_of}
use Rattle.totals.specs.Calls.{in_range}

-- the bytes of a panel
abbrev pub panel_bytes : ℕ
panel_bytes = most_length * segment_bytes

-- rows one after the other
abbrev pub joined : List (List ℕ) → List ℕ
joined [] = []
joined (row ∷ rows) = row ++ joined rows

-- the tests of a panel that is to be written to n bytes
abbrev pub panel_written_tests : ℕ → List ℕ → List ℕ → ℕ → ℕ → ℕ → ℕ → List Test
panel_written_tests k z p source predicate size n =
    files_tests k (length z) (length p) ++ out_test (ltb n panel_bytes) ∷ range_test (not (in_range source predicate size)) ∷ []

-- the number that a panel to be written to n bytes is answered with: LENGTH, FILE, OUT, RANGE or DONE
abbrev pub panel_written_refused : ℕ → List ℕ → List ℕ → ℕ → ℕ → ℕ → ℕ → ℕ
panel_written_refused k z p source predicate size n = refused (panel_written_tests k z p source predicate size n)

-- the output with the panel's rows at its front
abbrev pub panel_laid : ℕ → List ℕ → List ℕ → ℕ → ℕ → ℕ → List ℕ → List ℕ
panel_laid k z p source predicate size out = laid (joined (panel_of (width_of size) (predicate_of k predicate p) (vector_of k source z))) out

-- a panel written: the answer, and the output's bytes, which with a refusal are as they stood
pub record PanelWritten (k : ℕ) (z p : List ℕ) (source predicate size : ℕ) (out : List ℕ) (r : ℕ) (after : List ℕ) : Type 0 where
  pub answered : r ≡ panel_written_refused k z p source predicate size (length out)
  pub bytes : after ≡ unless_refused (panel_written_refused k z p source predicate size (length out)) (panel_laid k z p source predicate size out) out
