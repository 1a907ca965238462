-- What an accepted step leaves, from the step's own contract: its destination register holds what the word's meaning says. On it stand the
-- exact sums, the sums modulo 2^width, the subtotal and the panel that the calls answer, and that inactive lanes do not matter.
-- Assumes nothing.
use Prim.Native.Nat.{ℕ, ◌/◌, ◌<◌}
use mathlib.Core.Path.{◌≡◌, refl, sym, ◌∙◌, ap, ap₂}
use mathlib.Core.Bool.{Bool, true, false, cond}
use mathlib.Core.List.{List}
use lib.IntN.{ℤ, ◌+ℤ◌, ◌-ℤ◌, +ℤ_idr}
use Rattle.machine.specs.Size.{vector_bytes}
use Rattle.machine.specs.Refusal.{DONE}
use Rattle.parts.specs.Number.{bits_of}
use Rattle.registers.specs.Register.{padded}
use Rattle.registers.specs.State.{State, read}
use Rattle.lanes.specs.Lane.{width_of, lane, from_lanes}
use Rattle.lanes.specs.Integer.{integer, residue}
use Rattle.rows.specs.Table.{form_of, family_of}
use Rattle.words.specs.declared.Fields.{Fields}
use Rattle.rows.specs.declared.Parameters.{Parameters}
use Rattle.rows.specs.declared.Family.TheVariants.{Low, Wide}
use Rattle.rows.specs.declared.LowFamily.TheVariants.{Reduction, Segment}
use Rattle.rows.specs.declared.WideFamily.TheVariants.{Pairwise, Widening}
use Rattle.sums.specs.Panel.{per_segment, rows_sum}
use Rattle.totals.specs.Calls.{panel_answer, subtotal_answer}
use Rattle.meaning.specs.Terms.{negated_where}
use Rattle.meaning.specs.Execute.{target_of, destination_after, integer_after, width_for, lanes_for, executed}
use Rattle.meaning.specs.Theorems.{is_exact, answer_signed, element1, element2, is_governed, governed_of, Agree}
use Rattle.demands.proofs.Exact.{answer_modulo, answer_exact}
use Rattle.demands.proofs.Matter.{only_active_matters}
use Rattle.demands.proofs.Calls.{register_after, subtotal_is_the_sum, addqv_adds_the_panel}
use Rattle.journal.specs.Left.{Core, Buffers}
use Rattle.journal.proofs.Left.{number_left, buffers_left}
use Rattle.steps.specs.Calls.{fields_now, Stepped}
use Rattle.steps.proofs.Accepted.{AcceptedStep, step_accepted}

module _ (c : Core) (program : List ℕ) (b : Buffers) (r : ℕ) (after : Buffers) (made : Stepped c program b r after) (done : r ≡ DONE) where
  -- the length, the state before, and the word's fields
  abbrev k : ℕ
  k = c.k

  abbrev s : State
  s = b.files

  abbrev f : Fields
  f = fields_now program b.journal

  -- what is known of the step, and the state that it leaves
  known : AcceptedStep c program b
  known = step_accepted c program b (sym (number_left made.leaves) ∙ done)

  pub left : after.files ≡ executed f k s
  left = ap (λ (x : Buffers). x.files) (buffers_left made.leaves ∙ known.left)

  -- the destination register holds what the word's meaning says
  pub step_leaves : read k (target_of f) after.files ≡ destination_after f k s
  step_leaves = ap (read k (target_of f)) left ∙ register_after f k s known.executes

  -- every lane that is written holds its exact sum modulo 2^width
  pub step_modulo : (e : ℕ) → e < lanes_for f k → lane (width_for f) e (read k (target_of f) after.files) ≡ residue (bits_of (width_for f)) (integer_after f k s e)
  step_modulo e h = ap (lane (width_for f) e) step_leaves ∙ answer_modulo f k s e h

  -- read at its sign it is exact: saddv, uaddv below 64 bits, saddlv, uaddlv, the long sums, and as signed numbers the long differences
  pub step_exact : is_exact (family_of f.row) (form_of f.row).parameters f.size ≡ true → (e : ℕ) → e < lanes_for f k
      → integer (answer_signed (form_of f.row).parameters) (bits_of (width_for f)) (lane (width_for f) e (read k (target_of f) after.files)) ≡ integer_after f k s e
  step_exact exact e h =
      ap (λ (l : List ℕ). integer (answer_signed (form_of f.row).parameters) (bits_of (width_for f)) (lane (width_for f) e l)) step_leaves
      ∙ answer_exact f k s known.executes made.bytes.vectors exact e h

  -- of the sixteen widening words: what a lane holds by its two elements, modulo 2^width; exactly for the long sums at their sign; and
  -- exactly for the long differences as signed numbers, those of unsigned elements too
  module _ (is : family_of f.row ≡ Wide Widening) (e : ℕ) (h : e < vector_bytes k / width_of f.size) where
    abbrev ps : Parameters
    ps = (form_of f.row).parameters

    abbrev w : ℕ
    w = width_of f.size

    -- there are as many lanes of the elements' width
    within : e < lanes_for f k
    within = rw is h

    wide_as_lanes : width_for f ≡ w
    wide_as_lanes = rw is

    elements : integer_after f k s e ≡ element1 f k s e +ℤ negated_where ps.subtract (element2 f k s e)
    elements = rw is (ap (λ (z : ℤ). element1 f k s e +ℤ z) (+ℤ_idr (negated_where ps.subtract (element2 f k s e))))

    pub step_widening : lane w e (read k (target_of f) after.files) ≡ residue (bits_of w) (element1 f k s e +ℤ negated_where ps.subtract (element2 f k s e))
    step_widening =
        ap (λ (v : ℕ). lane v e (read k (target_of f) after.files)) (sym wide_as_lanes)
        ∙ step_modulo e within
        ∙ ap₂ (λ (v : ℕ) (z : ℤ). residue (bits_of v) z) wide_as_lanes elements

    module _ (long : ps.wide ≡ false) where
      exact : integer (answer_signed ps) (bits_of w) (lane w e (read k (target_of f) after.files)) ≡ integer_after f k s e
      exact =
          ap (λ (v : ℕ). integer (answer_signed ps) (bits_of v) (lane v e (read k (target_of f) after.files))) (sym wide_as_lanes)
          ∙ step_exact (rw (is, long) refl) e within

      -- by whether the second element is subtracted
      told : (subtract : Bool) → ps.subtract ≡ subtract
          → integer (cond subtract true ps.signed) (bits_of w) (lane w e (read k (target_of f) after.files)) ≡ element1 f k s e +ℤ negated_where subtract (element2 f k s e)
      told subtract t =
          ap (λ (b : Bool). integer (cond b true ps.signed) (bits_of w) (lane w e (read k (target_of f) after.files))) (sym t)
          ∙ exact
          ∙ elements
          ∙ ap (λ (b : Bool). element1 f k s e +ℤ negated_where b (element2 f k s e)) t

      pub step_long_sum : ps.subtract ≡ false → integer ps.signed (bits_of w) (lane w e (read k (target_of f) after.files)) ≡ element1 f k s e +ℤ element2 f k s e
      step_long_sum adds = told false adds

      pub step_long_difference : ps.subtract ≡ true → integer true (bits_of w) (lane w e (read k (target_of f) after.files)) ≡ element1 f k s e -ℤ element2 f k s e
      step_long_difference subtracts = told true subtracts

  -- the subtotal that the call answers for all lanes is lane 0 of what a saddv or uaddv step leaves
  pub step_subtotal : family_of f.row ≡ Low Reduction
      → subtotal_answer k s.z s.p f.n f.g f.size (form_of f.row).parameters.signed 0 (vector_bytes k / width_of f.size)
      ≡ record { number = DONE; value = lane 8 0 (read k (target_of f) after.files) }
  step_subtotal is =
      subtotal_is_the_sum f k s known.executes is
      ∙ ap (λ (t : State). record { number = DONE; value = lane 8 0 (read k (target_of f) t) }) (sym left)

  -- an addqv step leaves the column sums of what the call answers for the panel, and zeros above
  pub step_panel : family_of f.row ≡ Low Segment
      → read k (target_of f) after.files
      ≡ padded (vector_bytes k)
      (from_lanes (width_of f.size) 0 (per_segment (width_of f.size)) (rows_sum (width_of f.size) (panel_answer k s.z s.p f.n f.g f.size)))
  step_panel is = ap (read k (target_of f)) left ∙ addqv_adds_the_panel f k s known.executes is

  -- inactive lanes and bits at no e·w do not change what a step leaves: another state that agrees at the bits e·w and at the active lanes, and
  -- for a pairwise accumulate at the old destination, has the same destination after the step
  pub step_matters : (other : Buffers) (r' : ℕ) (after' : Buffers) → other.journal ≡ b.journal → Stepped c program other r' after' → r' ≡ DONE
      → is_governed (family_of f.row) ≡ true
      → Agree (width_of f.size) (governed_of f k s) (governed_of f k other.files)
      → (family_of f.row ≡ Wide Pairwise → read k (target_of f) s ≡ read k (target_of f) other.files)
      → read k (target_of f) after.files ≡ read k (target_of f) after'.files
  step_matters other r' after' journal made' done' governed agree old =
      let accepted = step_accepted c program other (sym (number_left made'.leaves) ∙ done') in
      let same : fields_now program other.journal ≡ f = ap (fields_now program) journal in
      let x = rw same at accepted.executes in
      let files : after'.files ≡ executed f k other.files =
      ap (λ (y : Buffers). y.files) (buffers_left made'.leaves ∙ accepted.left) ∙ ap (λ (g : Fields). executed g k other.files) same in
      step_leaves
      ∙ only_active_matters f k s other.files known.executes x governed agree old
      ∙ sym (ap (read k (target_of f)) files ∙ register_after f k other.files x)
