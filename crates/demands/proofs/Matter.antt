-- What matters to a word that a predicate governs: the predicate bits that stand at some e·w, and the bytes of active source lanes. Terms that
-- are active in both states or in neither, and hold the same where they are active, have one sum. Other predicate bits and inactive
-- lanes leave the destination as it is; for the pairwise accumulates where the old destination is the same, as it is where that is
-- another register than the source.
-- Assumes nothing.
use Prim.Native.Nat.{ℕ, zero, suc, ◌+◌, ◌*◌, ◌/◌, ◌≤◌, ◌<◌}
use mathlib.Core.Path.{◌≡◌, refl, sym, ◌∙◌, ap, ap₂}
use mathlib.Core.Bool.{Bool, true, false}
use mathlib.Core.List.{List, [], ◌∷◌}
use native.Mathlib.Omega.{arith}
use lib.ListN.{length}
use lib.IntN.{◌+ℤ◌}
use Rattle.machine.specs.Size.{vector_bytes, segment_bytes}
use Rattle.machine.proofs.Places.{place_within}
use Rattle.parts.specs.Number.{bits_of}
use Rattle.registers.specs.Register.{padded}
use Rattle.registers.specs.declared.Kind.TheVariants.{Vector}
use Rattle.registers.specs.State.{State, read}
use Rattle.lanes.specs.Lane.{width_of, active}
use Rattle.lanes.specs.Integer.{residue}
use Rattle.lanes.specs.Sum.{each, element}
use Rattle.lanes.proofs.Sums.{same_counted}
use Rattle.lanes.proofs.Written.{same_lanes}
use Rattle.rows.specs.Table.{form_of, family_of}
use Rattle.words.specs.declared.Fields.{Fields}
use Rattle.words.proofs.Decoding.{size_in_lem}
use Rattle.rows.specs.declared.Parameters.{Parameters}
use Rattle.rows.specs.declared.Family.{Family}
use Rattle.rows.specs.declared.Family.TheVariants.{Low, Wide, Made}
use Rattle.rows.specs.declared.LowFamily.TheVariants.{Reduction, Segment, Long}
use Rattle.rows.specs.declared.WideFamily.TheVariants.{Pairwise, Widening}
use Rattle.sums.specs.Sums.{Governed, AgreeAt}
use Rattle.sums.specs.Panel.{per_segment, FillsSegment}
use Rattle.sums.proofs.Widths.{width_legal}
use Rattle.sums.proofs.Matters.{same_active}
use Rattle.sums.proofs.Rows.{lane_inside, lane_place}
use Rattle.meaning.specs.Terms.{Operands, Operand1, Term, element_added, sum_of, governed_term}
use Rattle.meaning.specs.Meaning.{family_terms, lanes_after}
use Rattle.meaning.specs.Execute.{kind_written, target_of, operands_of, mask_of, feeds, integer_after, width_for, lanes_for, destination_after}
use Rattle.meaning.specs.Needs.{Executable}
use Rattle.meaning.specs.Theorems.{is_governed, governed_of, Agree}
use Rattle.elements.proofs.Halves.{element_same, half_same}
use Rattle.meaning.proofs.Effects.{old_is_target, operand_length}
use Rattle.meaning.proofs.Sizes.{false_not_true, whole, wide_halves, vector_destination, governed_vectors}

module _ (o o' : Operands) where
  -- two terms are active in both or in neither, and add the same where they are
  abbrev SameTerm : Term → Term → Type 0
  SameTerm t u = (t.is_active ≡ u.is_active) × (t.is_active ≡ true → element_added o t ≡ element_added o' u)

  abbrev SameTerms : List Term → List Term → Type 0
  SameTerms [] [] = Unit {0}
  SameTerms [] (u ∷ us) = ⊥
  SameTerms (t ∷ ts) [] = ⊥
  SameTerms (t ∷ ts) (u ∷ us) = SameTerm t u × SameTerms ts us

  -- such terms have one sum
  same_sum : (ts us : List Term) → SameTerms ts us → sum_of o ts ≡ sum_of o' us
  same_sum [] [] h = refl
  same_sum [] (u ∷ us) h = absurd h
  same_sum (t ∷ ts) [] h = absurd h
  same_sum (t ∷ ts) (u ∷ us) h =
      ap₂ ◌+ℤ◌ (same_counted t.is_active u.is_active (element_added o t) (element_added o' u) h.0.0 h.0.1) (same_sum ts us h.1)

  same_each : (f g : ℕ → Term) (e n : ℕ) → ((i : ℕ) → e ≤ i → i < e + n → SameTerm (f i) (g i)) → SameTerms (each f e n) (each g e n)
  same_each f g e zero h = tt
  same_each f g e (suc n) h = (h e (omega arith) (omega arith), same_each f g (suc e) n (λ i l k. h i (omega arith) (omega arith)))

module _ (w bytes : ℕ) (a b : Governed) (o o' : Operands) (first : o.operand1 ≡ a.register) (first' : o'.operand1 ≡ b.register)
    (size : length a.register ≡ bytes) (size' : length b.register ≡ bytes) (agree : Agree w a b) where
  at : (i : ℕ) → i * w + w ≤ bytes → AgreeAt w i a b
  at i h = agree i (rw size h)

  -- element i of the source, if it is active
  source_term : (signed : Bool) (i : ℕ) → i * w + w ≤ bytes → active w i a.predicate ≡ true → element signed w o.operand1 i ≡ element signed w o'.operand1 i
  source_term signed i h t = rw (first, first') (element_same signed w i a.register b.register ((at i h).1 t))

  -- both of its half elements
  half_term_lem : (signed : Bool) (e i : ℕ) → w / 2 * 2 ≡ w → i ≤ 1 → e * w + w ≤ bytes → active w e a.predicate ≡ true
      → element signed (w / 2) o.operand1 (2 * e + i) ≡ element signed (w / 2) o'.operand1 (2 * e + i)
  half_term_lem signed e i halves l h t =
      rw (first, first') (half_same signed w e i a.register b.register halves l (rw size h) (rw size' h) ((at e h).1 t))

  -- what feeds lane e of a family that a predicate governs
  same_feeds : (family : Family) (ps : Parameters) (q e : ℕ) → is_governed family ≡ true → FillsSegment w → bytes / w * w ≡ bytes
      → ((wide : _) → family ≡ Wide wide → w / 2 * 2 ≡ w) → (family ≡ Wide Pairwise → o.old ≡ o'.old) → e < lanes_after family w bytes
      → SameTerms o o' (family_terms family ps w q bytes a.predicate e) (family_terms family ps w q bytes b.predicate e)
  same_feeds (Low Reduction) ps q e g fills whole halves old l =
      same_each o o' (governed_term ps.signed w a.predicate) (governed_term ps.signed w b.predicate) 0 (bytes / w)
      (λ i m h. (same_active w a b i (at i (inside i (omega arith))), source_term ps.signed i (inside i (omega arith))))
    where
      inside : (i : ℕ) → i < bytes / w → i * w + w ≤ bytes
      inside i h = omega (arith, place_within i (bytes / w) w h, whole)
  same_feeds (Low Segment) ps q e g fills whole halves old l =
      same_each o o' (λ s. governed_term false w a.predicate (s * per_segment w + e)) (λ s. governed_term false w b.predicate (s * per_segment w + e)) 0 (bytes / segment_bytes)
      (λ s m h. (same_active w a b (s * per_segment w + e) (at (s * per_segment w + e) (inside s (omega arith))), source_term false (s * per_segment w + e) (inside s (omega arith))))
    where
      inside : (s : ℕ) → s < bytes / segment_bytes → (s * per_segment w + e) * w + w ≤ bytes
      inside s h = omega (arith, lane_place w s e fills, lane_inside w e fills l)
  same_feeds (Low Long) ps q e g fills whole halves old l = absurd (false_not_true g)
  same_feeds (Wide Pairwise) ps q e g fills whole halves old l = (
    (refl, λ t. ap (λ (r : List ℕ). element false w r e) (old refl)),
    ((same_active w a b e (at e inside), half 0 (omega arith)), ((same_active w a b e (at e inside), half 1 (omega arith)), tt)),
  )
    where
      inside : e * w + w ≤ bytes
      inside = omega (arith, place_within e (bytes / w) w l, whole)

      half : (i : ℕ) → i ≤ 1 → active w e a.predicate ≡ true → element ps.signed (w / 2) o.operand1 (2 * e + i) ≡ element ps.signed (w / 2) o'.operand1 (2 * e + i)
      half i m = half_term_lem ps.signed e i (halves Pairwise refl) m inside
  same_feeds (Wide Widening) ps q e g fills whole halves old l = absurd (false_not_true g)
  same_feeds (Made made) ps q e g fills whole halves old l = absurd (false_not_true g)

-- two states that agree at the predicate bits e·w and at the active source lanes, and for a pairwise accumulate at the old destination,
-- have the same destination after a governed word
pub only_active_matters : (f : Fields) (k : ℕ) (s s' : State) → Executable f k s → Executable f k s' → is_governed (family_of f.row) ≡ true
    → Agree (width_of f.size) (governed_of f k s) (governed_of f k s')
    → (family_of f.row ≡ Wide Pairwise → read k (target_of f) s ≡ read k (target_of f) s')
    → destination_after f k s ≡ destination_after f k s'
only_active_matters f k s s' x x' g agree old =
    vector_destination f k s vectors
    ∙ ap (padded (vector_bytes k))
    (same_lanes (width_for f) 0 (lanes_for f k) (λ (e : ℕ). residue (bits_of (width_for f)) (integer_after f k s e)) (λ (e : ℕ). residue (bits_of (width_for f)) (integer_after f k s' e))
    (λ e l h. ap (residue (bits_of (width_for f)))
    (same_sum (operands_of f k s) (operands_of f k s') (feeds f k (mask_of f k s) e) (feeds f k (mask_of f k s') e) (same e (omega arith)))))
    ∙ sym (vector_destination f k s' vectors)
  where
    vectors : kind_written (family_of f.row) ≡ Vector
    vectors = governed_vectors (family_of f.row) g

    same : (e : ℕ) → e < lanes_for f k → SameTerms (operands_of f k s) (operands_of f k s') (feeds f k (mask_of f k s) e) (feeds f k (mask_of f k s') e)
    same e h =
        same_feeds (width_of f.size) (vector_bytes k) (governed_of f k s) (governed_of f k s') (operands_of f k s) (operands_of f k s') refl refl
        (operand_length f k s x Operand1)
        (operand_length f k s' x' Operand1)
        agree
        (family_of f.row)
        (form_of f.row).parameters
        f.q
        e
        g
        (width_legal f.size (size_in_lem x.fields)).2
        (whole k f.size (size_in_lem x.fields))
        (wide_halves f k s x)
        (λ is. rw (old_is_target f vectors) (old is))
        h
