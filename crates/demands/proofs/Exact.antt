-- What the destination's lanes hold. Every lane that is written holds the low digits of the exact sum of what feeds it; read at its sign it
-- is that sum, where the terms are of one width and few enough: for saddv, for uaddv below 64 bits, for the sums across a vector, for the
-- long sums and, read as signed numbers, for the long differences.
-- Assumes nothing.
use Prim.Native.Nat.{ℕ, zero, suc, ◌+◌, ◌*◌, ◌-◌, ◌/◌, ◌^◌, ◌≤◌, ◌<◌}
use mathlib.Core.Path.{◌≡◌, refl, sym, ◌∙◌, ap}
use mathlib.Core.Bool.{Bool, true, false, not, cond}
use mathlib.Core.List.{List, [], ◌∷◌, map}
use native.Mathlib.Nat.{zero-add, mod-eq_of_lt, div-le_self, mul-le-mul_right}
use native.Mathlib.Omega.{arith}
use lib.ListN.{length, take, drop, replicate, length-map}
use lib.Pow.{pow-add, pow-lt, pow_mono}
use borrow.Author.Tests.{leb-true}
use Rattle.machine.specs.Size.{most_length, vector_bytes}
use Rattle.parts.specs.Number.{bits_of, AreBytes}
use Rattle.parts.proofs.Numbers.{drop_bytes}
use Rattle.registers.specs.Register.{vector_of}
use Rattle.registers.specs.State.{State}
use Rattle.lanes.specs.Lane.{width_of, lane}
use Rattle.lanes.specs.Integer.{integer, residue}
use Rattle.lanes.specs.Sum.{each, element, counted}
use Rattle.lanes.proofs.Residues.{residue_lt}
use Rattle.lanes.proofs.Sums.{Within, AllWithin, within_counted, within_more, within_signed, sum_is_exact, length_each}
use Rattle.lanes.proofs.Written.{read_lane}
use Rattle.rows.specs.Table.{form_of, family_of}
use Rattle.words.proofs.Decoding.{q_below, size_in_lem}
use Rattle.words.specs.declared.Fields.{Fields}
use Rattle.rows.specs.declared.Parameters.{Parameters}
use Rattle.rows.specs.declared.Family.{Family}
use Rattle.rows.specs.declared.Family.TheVariants.{Low, Wide, Made}
use Rattle.rows.specs.declared.LowFamily.TheVariants.{Reduction, Segment, Long}
use Rattle.rows.specs.declared.WideFamily.TheVariants.{Pairwise, Widening}
use Rattle.sums.proofs.Widths.{width_legal}
use Rattle.meaning.specs.Terms.{Operands, Source, Operand2, operand_of, Term, subtracted_where, added, sum_of, governed_term, free_term, data_bytes, half_term, first_term}
use Rattle.meaning.specs.Meaning.{family_terms, width_after}
use Rattle.meaning.specs.Execute.{operands_of, mask_of, feeds, integer_after, width_for, lanes_for, written_for, destination_after}
use Rattle.meaning.specs.Needs.{Executable}
use Rattle.meaning.specs.Theorems.{is_exact, answer_signed}
use Rattle.meaning.proofs.Effects.{source_field, operand_bytes}
use Rattle.meaning.proofs.Sizes.{false_not_true, k_most, vector_destination, lanes_of_vectors}

-- a term may be read as signed whatever it is, and as unsigned if it is unsigned and added
abbrev Reads : Bool → Term → Type 0
Reads true t = Unit {0}
Reads false t = (t.signed ≡ false) × (t.is_subtracted ≡ false)

-- terms of one width that may be read at a sign
abbrev Alike : Bool → ℕ → List Term → Type 0
Alike signed w [] = Unit {0}
Alike signed w (t ∷ ts) = Reads signed t × (t.width ≡ w) × Alike signed w ts

-- a term of a form's sign may be read at its answer's, if it is subtracted only where the form subtracts
reads_as_answer : (ps : Parameters) (t : Term) → t.signed ≡ ps.signed → (ps.subtract ≡ false → t.is_subtracted ≡ false) → Reads (answer_signed ps) t
reads_as_answer ps t = go ps.subtract ps.signed
  where
    go : (subtract signed : Bool) → t.signed ≡ signed → (subtract ≡ false → t.is_subtracted ≡ false) → Reads (cond subtract true signed) t
    go true signed a b = tt
    go false true a b = tt
    go false false a b = (a, b refl)

alike_each : (ps : Parameters) (w : ℕ) (f : ℕ → Term) (e n : ℕ) → ((i : ℕ) → ((f i).signed ≡ ps.signed) × ((f i).is_subtracted ≡ false) × ((f i).width ≡ w))
    → Alike (answer_signed ps) w (each f e n)
alike_each ps w f e zero h = tt
alike_each ps w f e (suc n) h = (reads_as_answer ps (f e) (h e).0 (λ _. (h e).1), (h e).2, alike_each ps w f (suc e) n h)

few_each : (f : ℕ → Term) (n m : ℕ) → n ≤ m → length (each f 0 n) ≤ m
few_each f n m h = rw (length_each f 0 n) h

-- terms that may be read at a sign, so few that E digits hold their sum
record Few (signed : Bool) (E : ℕ) (ts : List Term) : Type 0 where
  width : ℕ
  power : ℕ
  alike : Alike signed width ts
  most : length ts ≤ 2 ^ power
  room : power + (1 + bits_of width) < E

module _ (o : Operands) (bytes : (source : Source) → AreBytes (operand_of o source)) where
  -- each of them lies within its digits and one more
  within_term : (signed : Bool) (t : Term) → Reads signed t → Within signed (2 ^ (1 + bits_of t.width)) (added o t)
  within_term true t h = within_signed t.is_active t.is_subtracted t.signed t.width t.number (operand_of o t.source) (bytes t.source)
  within_term false t h =
      rw (h.0, h.1)
      (within_more false (2 ^ bits_of t.width) (2 ^ (1 + bits_of t.width)) (counted t.is_active (element false t.width (operand_of o t.source) t.number))
      (pow_mono {i = bits_of t.width} {j = 1 + bits_of t.width} (omega arith))
      (within_counted t.is_active false t.width t.number (operand_of o t.source) (bytes t.source)))

  within_terms : (signed : Bool) (w : ℕ) (ts : List Term) → Alike signed w ts → AllWithin signed (2 ^ (1 + bits_of w)) (map (added o) ts)
  within_terms signed w [] h = tt
  within_terms signed w (t ∷ ts) h = (rw (← h.1) (within_term signed t h.0), within_terms signed w ts h.2)

  -- so the low E digits of their sum, read at the sign, are the sum
  few_exact : (signed : Bool) (E : ℕ) (ts : List Term) → Few signed E ts → integer signed E (residue E (sum_of o ts)) ≡ sum_of o ts
  few_exact signed E ts h =
      sum_is_exact signed (2 ^ (1 + bits_of h.width)) E (map (added o) ts) (within_terms signed h.width ts h.alike)
      (rw (length-map ts (added o))
      (omega (
        arith,
        mul-le-mul_right (2 ^ (1 + bits_of h.width)) h.most,
        pow-add 2 h.power (1 + bits_of h.width),
        pow-lt {i = h.power + (1 + bits_of h.width)} {j = E} h.room,
      )))

-- what is not wide
narrow : (wide : Bool) → not wide ≡ true → wide ≡ false
narrow true h = sym h
narrow false h = refl

-- the terms of a form and size whose answer is exact are few
few_terms : (family : Family) (ps : Parameters) (k q size : ℕ) (mask : List ℕ) (e : ℕ) → k ≤ most_length → q < 2 → size < 4 → is_exact family ps size ≡ true
    → Few (answer_signed ps) (bits_of (width_after family (width_of size))) (family_terms family ps (width_of size) q (vector_bytes k) mask e)
few_terms (Low Reduction) ps k q size mask e km ql sl ex = record {
  width = width_of size;
  power = 8;
  alike = alike_each ps (width_of size) (governed_term ps.signed (width_of size) mask) 0 (vector_bytes k / width_of size) (λ i. (refl, refl, refl));
  most = few_each (governed_term ps.signed (width_of size) mask) (vector_bytes k / width_of size) (2 ^ 8) (omega (arith, div-le_self (vector_bytes k) (width_of size)));
  room = omega (arith, pow_mono {i = size} {j = 2} (leb-true size 2 ex));
}
few_terms (Low Segment) ps k q size mask e km ql sl ex = absurd (false_not_true ex)
few_terms (Low Long) ps k q size mask e km ql sl ex = record {
  width = width_of size;
  power = 4;
  alike = alike_each ps (width_of size) (free_term ps.signed (width_of size)) 0 (data_bytes q / width_of size) (λ i. (refl, refl, refl));
  most =
      few_each (free_term ps.signed (width_of size)) (data_bytes q / width_of size) (2 ^ 4)
      (omega (arith, div-le_self (data_bytes q) (width_of size), pow_mono {i = q} {j = 1} (omega arith)));
  room = omega (arith, (width_legal size sl).0);
}
few_terms (Wide Pairwise) ps k q size mask e km ql sl ex = absurd (false_not_true ex)
few_terms (Made made) ps k q size mask e km ql sl ex = absurd (false_not_true ex)
few_terms (Wide Widening) ps k q size mask e km ql sl ex = record {
  width = width_of size / 2;
  power = 1;
  alike = (
    reads_as_answer ps (first_term ps (width_of size) e) refl (λ _. refl),
    rw (narrow ps.wide ex) refl,
    (reads_as_answer ps (subtracted_where ps.subtract (half_term Operand2 ps (width_of size) e)) refl (λ adds. adds), refl, tt),
  );
  most = omega arith;
  room = omega (arith, (width_legal size sl).0);
}

-- a register of bytes
take_bytes : (n : ℕ) (l : List ℕ) → AreBytes l → AreBytes (take n l)
take_bytes zero l h i = omega arith
take_bytes (suc n) [] h i = omega arith
take_bytes (suc n) (b ∷ bs) h zero = h 0
take_bytes (suc n) (b ∷ bs) h (suc i) = take_bytes n bs (λ j. h (suc j)) i

vector_bytes_lem : (k r : ℕ) (z : List ℕ) → AreBytes z → AreBytes (vector_of k r z)
vector_bytes_lem k r z h = take_bytes (vector_bytes k) (drop (r * vector_bytes k) z) (drop_bytes (r * vector_bytes k) z h)

operand_of_bytes : (f : Fields) (k : ℕ) (s : State) → AreBytes s.z → (source : Source) → AreBytes (operand_of (operands_of f k s) source)
operand_of_bytes f k s h source = rw (operand_bytes f k s source) (vector_bytes_lem k (source_field f source) s.z h)

module _ (f : Fields) (k : ℕ) (s : State) where
  -- every lane that a word writes holds the sum of what feeds it modulo 2^width
  pub answer_modulo : (e : ℕ) → e < lanes_for f k → lane (width_for f) e (destination_after f k s) ≡ residue (bits_of (width_for f)) (integer_after f k s e)
  answer_modulo e h =
      ap (lane (width_for f) e) (vector_destination f k s (lanes_of_vectors (family_of f.row) (width_of f.size) (vector_bytes k) e h))
      ∙ read_lane (width_for f) 0 (lanes_for f k) e (λ (i : ℕ). residue (bits_of (width_for f)) (integer_after f k s i)) (replicate (vector_bytes k - length (written_for f k s)) 0) h
      ∙ rw (zero-add e) (mod-eq_of_lt (residue_lt (bits_of (width_for f)) (integer_after f k s e)))

  -- read at its sign it is exact: saddv, uaddv below 64 bits, saddlv, uaddlv, the long sums, and as signed numbers the long differences
  pub answer_exact : Executable f k s → AreBytes s.z → is_exact (family_of f.row) (form_of f.row).parameters f.size ≡ true → (e : ℕ) → e < lanes_for f k
      → integer (answer_signed (form_of f.row).parameters) (bits_of (width_for f)) (lane (width_for f) e (destination_after f k s)) ≡ integer_after f k s e
  answer_exact x b ex e h =
      ap (integer (answer_signed (form_of f.row).parameters) (bits_of (width_for f))) (answer_modulo e h)
      ∙ few_exact (operands_of f k s) (operand_of_bytes f k s b) (answer_signed (form_of f.row).parameters) (bits_of (width_for f)) (feeds f k (mask_of f k s) e)
      (few_terms (family_of f.row) (form_of f.row).parameters k f.q f.size (mask_of f k s) e
      (k_most f k s x) (q_below (family_of f.row) x.fields.q) (size_in_lem x.fields) ex)
