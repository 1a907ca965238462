-- A length that is no power of two from the least to the most, however large: each call that is lent it answers LENGTH, whatever else it is
-- lent, and bytes that name it are no session.
-- Assumes nothing.
use Prim.Native.Nat.{ℕ}
use mathlib.Core.Path.{◌≡◌, ◌∙◌}
use mathlib.Core.Logic.{⊎_elim}
use mathlib.Core.List.{List}
use Rattle.machine.specs.Size.{Legal}
use Rattle.machine.specs.Refusal.{LENGTH, SESSION}
use Rattle.machine.proofs.Legal.{illegal}
use Rattle.facts.specs.declared.Facts.{Facts}
use Rattle.registers.specs.State.{State}
use Rattle.registers.specs.declared.Kind.{Kind}
use Rattle.pane.specs.Drawn.{register_refused}
use Rattle.totals.specs.Calls.{panel_refused, subtotal_refused}
use Rattle.totals.specs.Lane.{lane_refused}
use Rattle.totals.specs.Written.{panel_written_refused}
use Rattle.journal.specs.Left.{core_of, Buffers}
use Rattle.journal.specs.Calls.{freshened, position_refused, entry_refused}
use Rattle.steps.specs.Calls.{stepped, backed}
use Rattle.steps.proofs.Accepted.{step_number, back_tests_lem}
use Rattle.journal.proofs.Accepted.{fresh_number}
use Rattle.lines.specs.Line.{line_refused}
use Rattle.session.specs.Layout.{session_length, session_of}
use Rattle.session.proofs.Reading.{session_exactly}

module _ (k : ℕ) (none : Legal k → ⊥) where
  pub fresh_length : (version : ℕ) (journal : List ℕ) → (freshened k version journal).number ≡ LENGTH
  fresh_length version journal = fresh_number k version journal ∙ rw (illegal k none)

  pub position_length : (journal : List ℕ) → position_refused k journal ≡ LENGTH
  unfolding position_refused
  position_length journal = rw (illegal k none)

  pub entry_length : (journal : List ℕ) (i : ℕ) → entry_refused k journal i ≡ LENGTH
  unfolding entry_refused
  entry_length journal i = rw (illegal k none)

  pub lane_length : (z p : List ℕ) (source predicate size e : ℕ) → lane_refused k z p source predicate size e ≡ LENGTH
  unfolding lane_refused
  lane_length z p source predicate size e = rw (illegal k none)

  pub register_length : (z p : List ℕ) (kind : Kind) (r : ℕ) → register_refused k z p kind r ≡ LENGTH
  register_length z p kind r = rw (illegal k none)

  pub panel_length : (z p : List ℕ) (source governing size : ℕ) → panel_refused k z p source governing size ≡ LENGTH
  panel_length z p source governing size = rw (illegal k none)

  pub panel_written_length : (z p : List ℕ) (source governing size n : ℕ) → panel_written_refused k z p source governing size n ≡ LENGTH
  panel_written_length z p source governing size n = rw (illegal k none)

  pub subtotal_length : (z p : List ℕ) (source governing size a b : ℕ) → subtotal_refused k z p source governing size a b ≡ LENGTH
  subtotal_length z p source governing size a b = rw (illegal k none)

  pub step_length : (facts : Facts) (program : List ℕ) (b : Buffers) → (stepped (core_of k facts) program b).number ≡ LENGTH
  step_length facts program b = step_number (core_of k facts) program b ∙ rw (illegal k none)

  pub back_length : (b : Buffers) → (backed k b).number ≡ LENGTH
  back_length b = back_tests_lem k b ∙ rw (illegal k none)

  pub line_length : (facts : Facts) (s : State) (program : List ℕ) (position number n : ℕ) → line_refused k facts s program position number n ≡ LENGTH
  unfolding line_refused
  line_length facts s program position number n = rw (illegal k none)

pub session_length_lem : (bytes : List ℕ) → (Legal (session_length bytes) → ⊥) → (session_of bytes).number ≡ SESSION
session_length_lem bytes none = ⊎_elim (λ h. absurd (none h.1.legal)) (λ h. h.0) (session_exactly bytes)
