-- What an accepted step leaves whose word makes a predicate, from the step's own contract: each bit of its register, the lanes that are active, and the
-- vectors as they were. After pfalse no lane is active at any size. After ptrue of all lanes, saddv and uaddv of its size or a wider one add every lane,
-- whatever the predicates were before; of a narrower size they do not.
-- Assumes nothing.
use Prim.Native.Nat.{ℕ, ◌+◌, ◌*◌, ◌/◌, ◌≤◌, ◌<◌}
use mathlib.Core.Path.{◌≡◌, refl, sym, ◌∙◌, ap}
use mathlib.Core.Bool.{Bool, true, false, cond}
use mathlib.Core.Logic.{◌↔◌, ◌⊎◌, inl, inr}
use mathlib.Core.List.{List}
use native.Mathlib.Nat.{mul-div_cancel}
use native.Mathlib.Omega.{arith}
use lib.Dec.{eqb}
use lib.IntN.{pos}
use lib.ListN.{replicate}
use lib.Pow.{pow_pos}
use borrow.Author.Tests.{eqb-true, eq-eqb, ltb-true, lt-ltb}
use Rattle.parts.specs.Number.{bits_of}
use Rattle.parts.proofs.Same.{both_left, both_right}
use Rattle.machine.specs.Size.{vector_bytes, predicate_bytes}
use Rattle.machine.specs.Refusal.{DONE}
use Rattle.machine.proofs.Places.{place_within}
use Rattle.registers.specs.declared.Kind.TheVariants.{Vector, Predicate}
use Rattle.registers.specs.Register.{Register, vector, predicate, vector_of, predicate_of}
use Rattle.registers.specs.State.{State, read}
use Rattle.lanes.specs.Lane.{width_of, lane, bit_at, active}
use Rattle.lanes.specs.Integer.{residue}
use Rattle.lanes.specs.Sum.{each, element, counted, active_element, total}
use Rattle.lanes.proofs.Sums.{same_each}
use Rattle.rows.specs.Table.{form_of, family_of}
use Rattle.rows.specs.declared.Family.{Family}
use Rattle.rows.specs.declared.Family.TheVariants.{Low, Made}
use Rattle.rows.specs.declared.LowFamily.TheVariants.{Reduction}
use Rattle.rows.specs.declared.MadeFamily.{MadeFamily}
use Rattle.rows.specs.declared.MadeFamily.TheVariants.{Patterned, Cleared}
use Rattle.words.specs.declared.Fields.{Fields}
use Rattle.words.proofs.Decoding.{size_in_lem}
use Rattle.patterns.proofs.Largest.{all_lanes}
use Rattle.made.specs.Made.{is_made, made_byte, made_bytes}
use Rattle.made.proofs.Made.{made_bit, made_active, made_wider, made_none, none_active}
use Rattle.meaning.specs.Execute.{kind_written, target_of, lane_count, lanes_made, destination_for, integer_after, width_for, lanes_for}
use Rattle.meaning.specs.Meaning.{width_after}
use Rattle.meaning.proofs.Effects.{target_of_kind, executed_of_kind}
use Rattle.meaning.proofs.Sizes.{whole}
use Rattle.journal.specs.Left.{Core, Buffers}
use Rattle.journal.proofs.Left.{number_left}
use Rattle.steps.specs.Calls.{fields_now, Stepped}
use Rattle.steps.proofs.Accepted.{AcceptedStep, step_accepted}
use Rattle.demands.specs.Made.{AtLane, Makes}
use Rattle.demands.proofs.Step.{left, step_leaves, step_modulo}
use Rattle.demands.proofs.Summed.{by_registers}

-- a bit is made exactly where it stands at a lane below the count
made_exactly : (size count x : ℕ) → is_made size count x ≡ true ↔ AtLane (width_of size) count x
made_exactly size count x = (there, back)
  where
    there : is_made size count x ≡ true → AtLane (width_of size) count x
    there e =
        record {
          lane = x / width_of size;
          below = ltb-true (x / width_of size) count (both_right (eqb (x / width_of size * width_of size) x) _ e);
          at = sym (eqb-true (x / width_of size * width_of size) x (both_left _ _ e));
        }

    back : AtLane (width_of size) count x → is_made size count x ≡ true
    back a =
        let place : x / width_of size ≡ a.lane = ap (λ (i : ℕ). i / width_of size) a.at ∙ mul-div_cancel a.lane {n = width_of size} (pow_pos size) in
        rw (place, eq-eqb (a.lane * width_of size) x (sym a.at), lt-ltb a.lane count a.below) refl

-- a bit that is 1 exactly where a test holds
bit_exactly : {A : Type 0} (t : Bool) {bit : ℕ} → bit ≡ cond t 1 0 → t ≡ true ↔ A → (bit ≡ 1 ↔ A) × ((bit ≡ 0) ⊎ (bit ≡ 1))
bit_exactly true e exactly = ((λ _. exactly.0 refl, λ _. e), inr e)
bit_exactly false e exactly = ((λ one. exactly.0 (absurd (omega arith)), λ a. absurd (none (exactly.1 a))), inl e)
  where
    none : false ≡ true → ⊥
    none h = let z : ◌≡◌ {A = ℕ} 0 1 = cc in omega arith

-- a predicate has a bit for each byte of a vector
bits_of_bytes : (k : ℕ) → 8 * predicate_bytes k ≡ vector_bytes k
bits_of_bytes k = omega arith

module _ (c : Core) (program : List ℕ) (b after : Buffers) (stepped : Stepped c program b DONE after) where
  -- the length, the state before, the word's fields, and what is known of the step
  abbrev k : ℕ
  k = c.k

  abbrev s : State
  s = b.files

  abbrev f : Fields
  f = fields_now program b.journal

  known : AcceptedStep c program b
  known = step_accepted c program b (sym (number_left stepped.leaves))

  -- a lane of the word's size has its bit inside the predicate
  lane_inside : (e : ℕ) → e < lane_count f k → e * width_of f.size < 8 * predicate_bytes k
  lane_inside e h =
      omega (arith, place_within e (lane_count f k) (width_of f.size) h, whole k f.size (size_in_lem known.executes.fields), pow_pos f.size)

  module _ (made : MadeFamily) (is : family_of f.row ≡ Made made) where
    -- as many lanes as the word names
    abbrev named : ℕ
    named = lanes_made made f.pattern (lane_count f k)

    register_is : read k (predicate f.d) after.files ≡ made_bytes (predicate_bytes k) f.size named
    register_is =
        ap (λ (r : Register). read k r after.files) (sym (target_of_kind f Predicate (ap kind_written is)))
        ∙ step_leaves c program b DONE after stepped refl
        ∙ ap (λ (family : Family). destination_for family f k s) is

    pub vectors_stay : after.files.z ≡ s.z
    vectors_stay = ap (λ (t : State). t.z) (left c program b DONE after stepped refl ∙ executed_of_kind f k s Predicate (ap kind_written is))

    pub step_makes : Makes f k made s after.files
    step_makes =
        record {
          bits = λ x h. bit_exactly (is_made f.size named x) (ap (bit_at x) register_is ∙ made_bit (predicate_bytes k) f.size named x h) (made_exactly f.size named x);
          lanes = λ e h.
              let is-active = ap (active (width_of f.size) e) register_is ∙ made_active (predicate_bytes k) f.size named e (lane_inside e h) in
              (λ on. ltb-true e named (sym is-active ∙ on), λ below. is-active ∙ lt-ltb e named below);
          vectors = vectors_stay;
        }

  -- after pfalse no lane is active, at any size
  pub pfalse_clears : family_of f.row ≡ Made Cleared → (w e : ℕ) → active w e (read k (predicate f.d) after.files) ≡ false
  pfalse_clears is w e =
      ap (active w e) (register_is Cleared is ∙ made_none (predicate_bytes k) f.size) ∙ none_active (predicate_bytes k) w e

  -- after ptrue of all lanes every lane of its size or a wider one is active
  pub ptrue_all : family_of f.row ≡ Made Patterned → f.pattern ≡ 31 → (wider e : ℕ) → f.size ≤ wider → e * width_of wider < 8 * predicate_bytes k
      → active (width_of wider) e (read k (predicate f.d) after.files) ≡ true
  ptrue_all is all wider e more inside =
      ap (active (width_of wider) e) (register_is Patterned is)
      ∙ made_wider (predicate_bytes k) f.size (lanes_made Patterned f.pattern (lane_count f k)) wider e (size_in_lem known.executes.fields) more every inside
    where
      count : lanes_made Patterned f.pattern (lane_count f k) ≡ lane_count f k
      count = ap (λ (pattern : ℕ). lanes_made Patterned pattern (lane_count f k)) all ∙ all_lanes (lane_count f k)

      every : 8 * predicate_bytes k / width_of f.size ≤ lanes_made Patterned f.pattern (lane_count f k)
      every = omega (arith, count, ap (λ (n : ℕ). n / width_of f.size) (bits_of_bytes k))

-- an element of a register counts as it is where its lane is active
counted_whole : (signed : Bool) (w : ℕ) (mask register : List ℕ) (e : ℕ) → active w e mask ≡ true → active_element signed w mask register e ≡ element signed w register e
counted_whole signed w mask register e on = ap (λ (t : Bool). counted t (element signed w register e)) on

module _ (c : Core) (program : List ℕ) (b middle after : Buffers) (first : Stepped c program b DONE middle) (second : Stepped c program middle DONE after) where
  -- the fields of the two words
  abbrev ptrue : Fields
  ptrue = fields_now program b.journal

  abbrev sum : Fields
  sum = fields_now program middle.journal

  -- a saddv or uaddv that follows a ptrue of all lanes and is governed by it, at its size or a wider one, leaves the sum of every lane
  module _ (makes : family_of ptrue.row ≡ Made Patterned) (all : ptrue.pattern ≡ 31) (adds : family_of sum.row ≡ Low Reduction)
      (governs : sum.g ≡ ptrue.d) (wider : ptrue.size ≤ sum.size) where
    abbrev w : ℕ
    w = width_of sum.size

    abbrev signed : Bool
    signed = (form_of sum.row).parameters.signed

    -- its mask is the predicate that was made, and its source stands as it stood before
    mask_is : predicate_of c.k sum.g middle.files.p ≡ read c.k (predicate ptrue.d) middle.files
    mask_is = ap (λ (g : ℕ). predicate_of c.k g middle.files.p) governs

    source_is : vector_of c.k sum.n middle.files.z ≡ vector_of c.k sum.n b.files.z
    source_is = ap (vector_of c.k sum.n) (vectors_stay c program b middle first Patterned makes)

    every_active : (e : ℕ) → 0 ≤ e → e < 0 + lane_count sum c.k
        → active_element signed w (predicate_of c.k sum.g middle.files.p) (vector_of c.k sum.n middle.files.z) e
        ≡ element signed w (vector_of c.k sum.n b.files.z) e
    every_active e low h =
        counted_whole signed w (predicate_of c.k sum.g middle.files.p) (vector_of c.k sum.n middle.files.z) e
        (ap (active w e) mask_is ∙ ptrue_all c program b middle first makes all sum.size e wider (lane_inside c program middle after second e (omega arith)))
        ∙ ap (λ (register : List ℕ). element signed w register e) source_is

    -- it writes one lane of eight bytes
    eight : width_for sum ≡ 8
    eight = ap (λ (family : Family). width_after family w) adds

    one : 0 < lanes_for sum c.k
    one = rw adds (omega arith)

    pub all_summed : lane 8 0 (read c.k (vector sum.d) after.files)
        ≡ residue 64 (total (each (element signed w (vector_of c.k sum.n b.files.z)) 0 (lane_count sum c.k)))
    all_summed =
        ap (λ (r : Register). lane 8 0 (read c.k r after.files)) (sym (target_of_kind sum Vector (ap kind_written adds)))
        ∙ ap (λ (v : ℕ). lane v 0 (read c.k (target_of sum) after.files)) (sym eight)
        ∙ step_modulo c program middle DONE after second refl 0 one
        ∙ ap (λ (v : ℕ). residue (bits_of v) (integer_after sum c.k middle.files 0)) eight
        ∙ ap (residue 64)
        ((by_registers sum c.k middle.files 0).reduction adds ∙ ap total (same_each _ _ 0 (lane_count sum c.k) every_active))

-- at a narrower size it does not: sixteen lanes of one byte that hold 1 each, under a predicate of all eight lanes of two bytes, add up to eight
pub narrower_sum : (total (each (active_element false 1 (made_bytes 2 1 8) (replicate 16 1)) 0 16) ≡ pos 8)
    × (total (each (element false 1 (replicate 16 1)) 0 16) ≡ pos 16)
unfolding made_bytes made_byte
narrower_sum = (refl, refl)
