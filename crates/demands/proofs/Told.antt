-- What the calls for a row, for a lane and for an entry tell, beside what a word does and what a step back restores: the widths that are told of a row
-- are those of its words' terms, each term's lane is told, and the last entry's bytes are those that are put back.
-- Assumes nothing.
use Prim.Native.Nat.{ℕ, zero, suc, ◌+◌, ◌-◌, ◌≤◌, ◌<◌}
use mathlib.Core.Logic.{◌↔◌}
use Rattle.registers.specs.declared.Kind.TheVariants.{Predicate}
use mathlib.Core.Path.{◌≡◌, refl, sym, ◌∙◌, ap, ap₂}
use mathlib.Core.Bool.{Bool, true, false, not}
use mathlib.Core.List.{List, [], ◌∷◌}
use native.Mathlib.Omega.{arith}
use lib.Dec.{leb}
use lib.ListN.{take, drop, get_or}
use lib.Seq.{take-take}
use borrow.Author.Tests.{not-true, leb-true}
use Rattle.parts.specs.Part.{part}
use Rattle.parts.proofs.Same.{both_left}
use Rattle.machine.specs.Size.{sizes, vector_bytes}
use Rattle.machine.specs.Refusal.{DONE}
use Rattle.machine.proofs.Sizes.{of_four}
use Rattle.registers.specs.Register.{Register, IsRegister, vector_of, predicate_of, numbered, register_bytes}
use Rattle.registers.specs.State.{State, Sized, read}
use Rattle.registers.proofs.Places.{bytes_most}
use Rattle.registers.proofs.Numbers.{numbered_is}
use Rattle.registers.proofs.States.{read_write}
use Rattle.lanes.specs.Lane.{width_of, active}
use Rattle.lanes.specs.Integer.{residue}
use Rattle.lanes.specs.Sum.{element}
use Rattle.rows.specs.Table.{rows, row_at, form_of, family_of}
use Rattle.rows.proofs.Every.{every, at_each}
use Rattle.rows.specs.declared.Form.{Form}
use Rattle.rows.specs.declared.Parameters.{Parameters}
use Rattle.rows.specs.declared.Family.{Family}
use Rattle.rows.specs.declared.Family.TheVariants.{Low, Wide, Made}
use Rattle.rows.specs.declared.LowFamily.{LowFamily}
use Rattle.rows.specs.declared.LowFamily.TheVariants.{Reduction, Segment, Long}
use Rattle.rows.specs.declared.WideFamily.TheVariants.{Pairwise, Widening}
use Rattle.words.specs.Sizes.{allows, allows_family}
use Rattle.words.specs.declared.Fields.{Fields}
use Rattle.words.specs.Decode.{Word}
use Rattle.words.proofs.Decoding.{governing_below, q_below, size_in_lem}
use Rattle.words.proofs.Encoding.{decoded_in_range}
use Rattle.facts.specs.declared.Facts.{Facts}
use Rattle.cores.specs.Need.{either}
use Rattle.cores.specs.Core.{decoded_on}
use Rattle.cores.proofs.Answers.{core_decodes}
use Rattle.totals.specs.Calls.{lanes_at}
use Rattle.totals.specs.Lane.{lane_told}
use Rattle.totals.specs.Lane.{Lane}
use Rattle.totals.proofs.Accepted.{Accepted}
use Rattle.totals.proofs.Lanes.{lane_is_told}
use Rattle.about.specs.Widths.{family_bytes, allows_some, bytes_at, bytes_by_size}
use Rattle.about.specs.About.{reads_destination, row_told, about_answer, writes_predicate}
use Rattle.about.proofs.Answers.{row_is_told, sign_told_lem, governing_told, second_told, reads_told, source_told, writes_told}
use Rattle.about.specs.About.{About}
use Rattle.about.specs.declared.Operand.{Operand}
use Rattle.about.specs.declared.Operand.TheVariants.{Destination}
use Rattle.meaning.specs.Terms.{Source, Operand1, Operand2, Old, Term, operand_of}
use Rattle.meaning.specs.Meaning.{family_terms, width_after, lanes_after}
use Rattle.meaning.specs.Execute.{source_of, governing_of, operands_of, mask_of, feeds, width_for, lanes_for, kind_written, target_of}
use Rattle.meaning.specs.Needs.{Executable}
use Rattle.meaning.specs.Theorems.{is_governed}
use Rattle.meaning.proofs.Sizes.{k_least}
use Rattle.meaning.proofs.Effects.{source_field, source_is, source_below, governing_is, operand_bytes, mask_bytes, target_is}
use Rattle.entries.specs.Layout.{Entry, version_of, held_of, entry_at, last_entry}
use Rattle.entries.specs.Restored.{restored}
use Rattle.entries.proofs.Versions.{greatest_register}
use Rattle.entries.proofs.Written.{last_named, length_last}
use Rattle.entries.proofs.Restored.{put_back_whole}
use Rattle.journal.specs.Left.{Buffers}
use Rattle.journal.specs.Calls.{entry_told, entry_answer}
use Rattle.journal.specs.Calls.{Held}
use Rattle.journal.proofs.Left.{number_left, buffers_left}
use Rattle.journal.proofs.Accepted.{Returning, AcceptedPosition, entry_accepts}
use Rattle.steps.specs.Calls.{Backed}
use Rattle.steps.proofs.Accepted.{AcceptedBack, back_accepted}
use Rattle.demands.specs.Told.{Each, bytes_told, named_told, sign_told, counts_by, governed_lane, told_of, TermTold, LastRestored}
use Rattle.demands.proofs.Shapes.{operand_for, named_by, sign_by, Shaped, low_shaped, wide_shaped}

-- the bytes that are told of a row: at one of the four sizes, and at a size that some Q allows
by_size : (form : Form) (operand : Operand) (size : ℕ) → size < sizes → get_or (bytes_by_size form operand) size 0 ≡ bytes_at form operand size
by_size form operand = of_four (λ n. get_or (bytes_by_size form operand) n 0 ≡ bytes_at form operand n) refl refl refl refl

either_second : (a b : Bool) → b ≡ true → either a b ≡ true
either_second true b e = refl
either_second false b e = e

some_allows : (form : Form) (q size : ℕ) → q < 2 → allows form q size ≡ true → allows_some form size ≡ true
some_allows form zero size h e = rw e
some_allows form (suc zero) size h e = either_second (allows form 0 size) (allows form 1 size) e
some_allows form (suc (suc q)) size h e = absurd (omega arith)

-- what is told of an operand of a row that there is
bytes_of : (row : ℕ) → row < rows → (source : Source) (size : ℕ) → bytes_told (about_answer row) source size ≡ get_or (bytes_by_size (form_of row) (operand_for source)) size 0
unfolding row_told
bytes_of row h Operand1 size = ap (λ (a : About). get_or a.n_bytes size 0) (row_is_told row h)
bytes_of row h Operand2 size = ap (λ (a : About). get_or a.m_bytes size 0) (row_is_told row h)
bytes_of row h Old size = ap (λ (a : About). get_or a.d_bytes size 0) (row_is_told row h)

-- what a word writes has the bytes that the row's family has for its destination
written_bytes : (family : Family) (wide : Bool) (w : ℕ) → family_bytes family wide Destination w ≡ width_after family w
written_bytes (Low Reduction) wide w = refl
written_bytes (Low Segment) wide w = refl
written_bytes (Low Long) wide w = refl
written_bytes (Wide Pairwise) wide w = refl
written_bytes (Wide Widening) wide w = refl
written_bytes (Made made) wide w = refl

-- addqv's row, computed over the table: its elements have no sign
abbrev is_segment : Family → Bool
is_segment (Low Reduction) = false
is_segment (Low Segment) = true
is_segment (Low Long) = false
is_segment (Wide wide) = false
is_segment (Made made) = false

segments_unsigned : every rows (λ i. either (not (is_segment (family_of i))) (not (form_of i).parameters.signed)) ≡ true
unfolding row_at
segments_unsigned = refl

implied : (t u : Bool) → either (not t) (not u) ≡ true → t ≡ true → u ≡ false
implied true u e is = not-true u e
implied false u e is = cc

-- the terms of a family's words have their shape
shaped : (family : Family) (ps : Parameters) (size q k : ℕ) (mask : List ℕ) (e : ℕ) → (is_segment family ≡ true → ps.signed ≡ false) → size < sizes → q < 2 → 1 ≤ k
    → allows_family family ps.signed q size ≡ true → e < lanes_after family (width_of size) (vector_bytes k)
    → Each (Shaped family ps size k mask e) (family_terms family ps (width_of size) q (vector_bytes k) mask e)
shaped (Low low) ps size q k mask e unsigned small few some allowed lies =
    low_shaped ps size small k mask e low q (λ is. unsigned (ap (λ (l : LowFamily). is_segment (Low l)) is)) few some lies
shaped (Wide wide) ps size q k mask e unsigned small few some allowed lies =
    wide_shaped ps size small k mask e (leb-true 1 size (both_left (leb 1 size) (leb size 3) allowed)) lies wide q
shaped (Made made) ps size q k mask e unsigned small few some allowed lies = tt

-- what holds of each term is turned into what follows from it
each_follows : (P Q : Term → Type 0) → ((t : Term) → P t → Q t) → (ts : List Term) → Each P ts → Each Q ts
each_follows P Q h [] all = tt
each_follows P Q h (t ∷ ts) all = (h t all.0, each_follows P Q h ts all.1)

-- where a predicate governs what counts, what it says decides
same_counts : (source : Source) (governed a b : Bool) → (governed ≡ true → a ≡ b) → counts_by source governed a ≡ counts_by source governed b
same_counts Operand1 true a b h = h refl
same_counts Operand1 false a b h = refl
same_counts Operand2 true a b h = h refl
same_counts Operand2 false a b h = refl
same_counts Old governed a b h = refl

module _ (f : Fields) (k : ℕ) (s : State) (x : Executable f k s) where
  -- the word's size is allowed by some Q, so that the bytes told of its row are its family's
  told_bytes : (source : Source)
      → bytes_told (about_answer f.row) source f.size ≡ family_bytes (family_of f.row) (form_of f.row).parameters.wide (operand_for source) (width_of f.size)
  told_bytes source =
      bytes_of f.row x.fields.row source f.size
      ∙ by_size (form_of f.row) (operand_for source) f.size (size_in_lem x.fields)
      ∙ rw (some_allows (form_of f.row) f.q f.size (q_below (family_of f.row) x.fields.q) x.fields.allowed)

  -- the lanes that a word writes have the bytes that are told of its row
  pub row_writes : bytes_told (about_answer f.row) Old f.size ≡ width_for f
  row_writes = told_bytes Old ∙ written_bytes (family_of f.row) (form_of f.row).parameters.wide (width_of f.size)

  -- a word's row is told to write a predicate exactly where its word writes one
  pub kind_told : (about_answer f.row).writes_predicate ≡ true ↔ (target_of f).kind ≡ Predicate
  kind_told =
      rw (writes_told f.row x.fields.row, target_is f) (by (family_of f.row))
    where
      by : (family : Family) → writes_predicate family ≡ true ↔ kind_written family ≡ Predicate
      by (Low low) = (λ e. cc, λ e. cc)
      by (Wide wide) = (λ e. cc, λ e. cc)
      by (Made made) = (λ e. refl, λ e. refl)

  -- by the operand: it is named, and read at its sign, as is told of the row
  named_told_lem : (source : Source) → named_told (about_answer f.row) source ≡ named_by (family_of f.row) source
  named_told_lem Operand1 = source_told f.row x.fields.row
  named_told_lem Operand2 = second_told f.row x.fields.row
  named_told_lem Old = reads_told f.row x.fields.row

  signed_told : (source : Source) → sign_told (about_answer f.row) source ≡ sign_by (form_of f.row).parameters.signed source
  signed_told Operand1 = sign_told_lem f.row x.fields.row
  signed_told Operand2 = sign_told_lem f.row x.fields.row
  signed_told Old = refl

  -- a lane of an operand is asked for by the operand's number and the predicate's
  source_number : (source : Source) → (source_of f source).number ≡ source_field f source
  source_number source = ap (λ (r : Register). r.number) (source_is f source)

  governing_number : (governing_of f).number ≡ f.g
  governing_number = ap (λ (r : Register). r.number) (governing_is f)

  asks : (source : Source) (size : ℕ) → size < sizes → Accepted k s.z s.p (source_of f source).number (governing_of f).number size
  asks source size small =
      record {
        lent = x.lent;
        source_is = omega (arith, source_number source, source_below f k s x source);
        predicate_is = omega (arith, governing_number, governing_below (family_of f.row) x.fields.g);
        size_is = small;
      }

  -- and told
  is_told : (source : Source) (size : ℕ) (signed : Bool) (e : ℕ) → size < sizes → e < lanes_at k size
      → told_of f k s source size signed e ≡ lane_told k s.z s.p (source_of f source).number (governing_of f).number size signed e
  is_told source size signed e small lies =
      lane_is_told k s.z s.p (source_of f source).number (governing_of f).number size signed (asks source size small) e lies

  operand_asked : (source : Source) → vector_of k (source_of f source).number s.z ≡ operand_of (operands_of f k s) source
  operand_asked source = ap (λ (n : ℕ). vector_of k n s.z) (source_number source) ∙ sym (operand_bytes f k s source)

  mask_asked : mask_of f k s ≡ predicate_of k (governing_of f).number s.p
  mask_asked = mask_bytes f k s ∙ ap (λ (n : ℕ). predicate_of k n s.p) (sym governing_number)

  -- addqv is told unsigned
  segment_sign : is_segment (family_of f.row) ≡ true → (form_of f.row).parameters.signed ≡ false
  segment_sign =
      implied (is_segment (family_of f.row)) (form_of f.row).parameters.signed
      (at_each rows (λ i. either (not (is_segment (family_of i))) (not (form_of i).parameters.signed)) segments_unsigned f.row x.fields.row)

  module _ (e : ℕ) where
    -- whether it counts, from the bit of its governed lane
    counts_told : (t : Term) → Shaped (family_of f.row) (form_of f.row).parameters f.size k (mask_of f k s) e t
        → let row = about_answer f.row in
        t.is_active ≡ counts_by t.source row.has_g (told_of f k s t.source f.size t.signed (governed_lane row.reads_destination e t)).active
    counts_told t shape =
        let n = governed_lane (reads_destination (family_of f.row)) e t in
        shape.counts
        ∙ same_counts t.source (is_governed (family_of f.row)) _ _ (λ governed.
        ap (active (width_of f.size) n) mask_asked
        ∙ sym (ap (λ (l : Lane). l.active) (is_told t.source f.size t.signed n (size_in_lem x.fields) (shape.governed governed))))
        ∙ ap₂ (λ (g reads : Bool). counts_by t.source g (told_of f k s t.source f.size t.signed (governed_lane reads e t)).active)
        (sym (governing_told f.row x.fields.row))
        (sym (reads_told f.row x.fields.row))

    -- so a term that has its shape is told
    term_told : (t : Term) → Shaped (family_of f.row) (form_of f.row).parameters f.size k (mask_of f k s) e t → TermTold f k s e t
    term_told t shape =
        let told = is_told t.source shape.asked t.signed t.number shape.known shape.inside in
        record {
          named = named_told_lem t.source ∙ shape.named;
          sign = shape.sign ∙ sym (signed_told t.source);
          size = shape.asked;
          width = shape.width;
          row = told_bytes t.source ∙ shape.row;
          done = ap (λ (l : Lane). l.number) told;
          value = ap (λ (l : Lane). l.value) told
              ∙ ap₂ (λ (w : ℕ) (l : List ℕ). residue 64 (element t.signed w l t.number)) shape.width (operand_asked t.source);
          counts = counts_told t shape;
        }

    -- every term that may feed a lane which the word writes is told
    pub fed_as_told : e < lanes_for f k → Each (TermTold f k s e) (feeds f k (mask_of f k s) e)
    fed_as_told lies =
        each_follows (Shaped (family_of f.row) (form_of f.row).parameters f.size k (mask_of f k s) e) (TermTold f k s e) term_told
        (feeds f k (mask_of f k s) e)
        (shaped (family_of f.row) (form_of f.row).parameters f.size f.q k (mask_of f k s) e segment_sign (size_in_lem x.fields)
        (q_below (family_of f.row) x.fields.q)
        (k_least f k s x)
        x.fields.allowed
        lies)

-- so of every word that a core accepts, over files of a legal length: all that may feed its lanes is told, and the bytes of the lanes that it writes
pub word_as_told : (facts : Facts) (word : ℕ) (f : Fields) (k : ℕ) (s : State) → decoded_on facts word ≡ Word f → Sized k s
    → ((e : ℕ) → e < lanes_for f k → Each (TermTold f k s e) (feeds f k (mask_of f k s) e)) × (bytes_told (about_answer f.row) Old f.size ≡ width_for f)
word_as_told facts word f k s accepted sized =
    let executes : Executable f k s = record { lent = sized; fields = decoded_in_range word f (core_decodes facts word f accepted) } in
    (fed_as_told f k s executes, row_writes f k s executes)

module _ (k : ℕ) (b after : Buffers) (made : Backed k b DONE after) where
  -- the journal before, its last entry and that one's register
  abbrev journal : List ℕ
  journal = b.journal

  abbrev i : ℕ
  i = held_of journal - 1

  abbrev last : Entry
  last = last_entry k journal

  abbrev register : Register
  register = numbered last.number

  back : AcceptedBack k b
  back = back_accepted k b (sym (number_left made.leaves))

  start : Returning k b
  start = back.start

  told : entry_answer k journal i ≡ entry_told k journal i
  told =
      let position : AcceptedPosition k journal = record { legal = start.sized.legal; formed = start.formed } in
      rw (entry_accepts k journal i (record { position = position; inside = omega (arith, start.some) }))

  files : after.files ≡ restored k last b.files
  files = ap (λ (x : Buffers). x.files) (buffers_left made.leaves ∙ back.left)

  is : IsRegister register
  is = numbered_is last.number (greatest_register (version_of journal) last.number (last_named k journal start.formed start.some))

  -- a register has after a step back that was done the bytes that are told of the last entry before it
  pub last_restored : LastRestored k b after
  last_restored =
      let own = register_bytes k register.kind in
      let whole = length_last k journal start.formed start.some in
      record {
        done = ap (λ (e : Held). e.number) told;
        restored = ap (λ (e : Held). read k (numbered e.target) after.files) told
            ∙ ap (read k register) files
            ∙ read_write k register b.files start.sized is (take own last.old) (put_back_whole k register.kind last.old whole)
            ∙ take-take own (vector_bytes k) (drop (entry_at k journal i + 1) journal) (bytes_most k register.kind)
            ∙ sym (ap (λ (e : Held). part e.start e.bytes journal) told);
      }
