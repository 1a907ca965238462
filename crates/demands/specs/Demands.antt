-- The first two of the three demands as statements; the third is `Demand3` (travel/specs/Travel.antt). Each speaks of every input and of every
-- result that a call's contract allows, and asks nothing else of whoever makes the call.
use Rattle.std.specs.Prelude.{ℕ, suc, ◌+◌, ◌*◌, ◌/◌, ◌<◌, ◌^◌, ◌≡◌, Bool, true, false, cond, ◌↔◌, ◌⊎◌, List, [], length, take, ℤ, ◌+ℤ◌}
use Rattle.std.specs.Borrow.{Bor}
use Rattle.parts.specs.Number.{bits_of}
use Rattle.machine.specs.Size.{vector_bytes, segment_bytes}
use Rattle.machine.specs.Refusal.{DONE, UNKNOWN, UNDEFINED, OUT, TEXT, SESSION, Test, in_order, First}
use Rattle.machine.specs.Refusal.{Answer}
use Rattle.registers.specs.declared.Kind.{Kind}
use Rattle.registers.specs.Register.{register_from, vector_of, predicate_of}
use Rattle.registers.specs.State.{State, read}
use Rattle.lanes.specs.Lane.{width_of, lane, active}
use Rattle.lanes.specs.Integer.{integer, residue}
use Rattle.lanes.specs.Sum.{each, element, counted, active_element, total}
use Rattle.rows.specs.Digits.{word_digits}
use Rattle.rows.specs.Table.{rows, row_at, matches, form_of, family_of}
use Rattle.rows.specs.declared.Parameters.{Parameters}
use Rattle.rows.specs.declared.Family.{Family}
use Rattle.rows.specs.declared.Family.TheVariants.{Low, Wide, Made}
use Rattle.rows.specs.declared.MadeFamily.{MadeFamily}
use Rattle.rows.specs.declared.LowFamily.TheVariants.{Reduction, Segment, Long}
use Rattle.rows.specs.declared.WideFamily.TheVariants.{Pairwise, Widening}
use Rattle.facts.specs.declared.Facts.{Facts}
use Rattle.facts.specs.Facts.{all_facts}
use Rattle.words.specs.Decode.{decoded, number_of, fields_of, no_fields, RowWith}
use Rattle.words.specs.declared.Fields.{Fields}
use Rattle.words.specs.Decode.{Decoded}
use Rattle.words.specs.Decode.{Word}
use Rattle.cores.specs.Core.{decoded_on, Granted, Lacking}
use Rattle.programs.specs.Word.{word_at, words_of, place_tests, next_word}
use Rattle.programs.specs.Read.{read_next}
use Rattle.programs.specs.Word.{Next}
use Rattle.programs.specs.declared.reader.Reader.{Reader}
use Rattle.programs.specs.Read.{Read}
use Rattle.pane.specs.Drawn.{register_tests, register_refused, IsPart}
use Rattle.sums.specs.Panel.{per_segment, no_panel}
use Rattle.totals.specs.Calls.{panel_tests, panel_refused, panel_answer, subtotal_tests, subtotal_answer}
use Rattle.totals.specs.Written.{panel_written_tests, PanelWritten}
use Rattle.totals.specs.Lane.{lane_tests, lane_answer, no_lane}
use Rattle.totals.specs.Lane.{Lane}
use Rattle.about.specs.About.{row_tests, about_answer, no_about}
use Rattle.about.specs.About.{About}
use Rattle.names.specs.Named.{least_out, name_tests, Named}
use Rattle.assembles.specs.Assembled.{ReadsAs, Assembled}
use Rattle.meaning.specs.Terms.{negated_where, data_bytes, selected}
use Rattle.meaning.specs.Execute.{kind_written, target_of, executed, destination_after, integer_after, width_for, lanes_for}
use Rattle.meaning.specs.Theorems.{is_exact, answer_signed, is_governed, governed_of, Agree}
use Rattle.entries.specs.Layout.{held_of, position_of}
use Rattle.journal.specs.Left.{Core, Buffers}
use Rattle.journal.specs.Calls.{fresh_tests, back_tests, position_tests, position_answer, entry_tests, entry_answer, no_entry, Freshened}
use Rattle.journal.specs.Calls.{Held}
use Rattle.steps.specs.Calls.{fields_now, step_tests, Stepped, Backed}
use Rattle.steps.specs.Frame.{Kept}
use Rattle.lines.specs.Line.{line_tests, session_line_tests, LineWritten, SessionLineWritten}
use Rattle.session.specs.Body.{Session}
use Rattle.session.specs.Body.{no_session}
use Rattle.session.specs.Layout.{session_tests, session_of, IsSession}
use Rattle.walks.specs.Output.{output_tests, OutputWritten}
use Rattle.demands.specs.Made.{Makes}

-- a call's number by its tests: they stand in the paper's order, and each refusal comes exactly where its case is given and none before it is
pub record Exactly (tests : List Test) (number : ℕ) : Type 0 where
  pub ordered : in_order tests ≡ true
  pub exactly : (n : ℕ) → number ≡ suc n ↔ First tests (suc n)

-- with a refusal one thing is the other: what was lent is what stood, or a value is 0
abbrev pub WhenRefused : {X : Type 0} → ℕ → X → X → Type 0
WhenRefused number x y = (number ≡ DONE → ⊥) → x ≡ y

-- an answer's number by its tests, and with a refusal 0 for its value
pub record AnswersExactly (tests : List Test) (r : Answer) : Type 0 where
  pub number : Exactly tests r.number
  pub nothing : WhenRefused r.number r.value 0

-- what a word decodes to on a core: UNKNOWN exactly where no row matches, UNDEFINED exactly where one does whose size is not allowed or whose
-- need the core lacks, and fields exactly where it has them and the core has the need; there is no other answer, and a refusal has no fields
pub record DecodesExactly (facts : Facts) (word : ℕ) (r : Decoded) : Type 0 where
  pub listed : (number_of r ≡ DONE) ⊎ ((number_of r ≡ UNKNOWN) ⊎ (number_of r ≡ UNDEFINED))
  pub unknown : number_of r ≡ UNKNOWN ↔ ((i : ℕ) → i < rows → matches (row_at i) word ≡ false)
  pub undefined : number_of r ≡ UNDEFINED ↔ (RowWith word false ⊎ Lacking facts word)
  pub accepted : (f : Fields) → r ≡ Word f ↔ Granted facts word f
  pub nothing : WhenRefused (number_of r) (fields_of r) no_fields

-- what a text is assembled to on a core: TEXT, with 0, exactly where no word that the core accepts reads so, and no other refusal
pub record AssemblesExactly (facts : Facts) (text : List ℕ) (r : Answer) : Type 0 where
  pub listed : (r.number ≡ DONE) ⊎ (r.number ≡ TEXT)
  pub refused : r.number ≡ TEXT ↔ ((word : ℕ) → ReadsAs facts word text → ⊥)
  pub nothing : WhenRefused r.number r.value 0

-- the calls that write into what they are lent: each refusal exactly in its case, and then every byte as it stood
pub record WritingCalls : Type 0 where
  pub fresh : (k version : ℕ) (old new : List ℕ) (r : ℕ) → Freshened k version old r new → Exactly (fresh_tests k version old) r × WhenRefused r new old
  pub step : (c : Core) (program : List ℕ) (b after : Buffers) (r : ℕ) → Stepped c program b r after → Exactly (step_tests c program b) r × WhenRefused r after b
  pub back : (k : ℕ) (b after : Buffers) (r : ℕ) → Backed k b r after → Exactly (back_tests k b) r × WhenRefused r after b
  pub text : (word : ℕ) (facts : Facts) (old new : List ℕ) (r : Answer) → Named word facts old new r
      → AnswersExactly (name_tests (length old) word facts) r × WhenRefused r.number new old
  pub panel : (k : ℕ) (z p : List ℕ) (source predicate size : ℕ) (old new : List ℕ) (r : ℕ) → PanelWritten k z p source predicate size old r new
      → Exactly (panel_written_tests k z p source predicate size (length old)) r × WhenRefused r new old
  pub line : (k : ℕ) (facts : Facts) (s : State) (program : List ℕ) (position number : ℕ) (old new : List ℕ) (r : Answer)
      → LineWritten k facts s program position number old new r
      → AnswersExactly (line_tests k facts s program position number (length old)) r × WhenRefused r.number new old
  pub session_line : (old new : List ℕ) (r : Answer) → SessionLineWritten old new r → AnswersExactly (session_line_tests (length old)) r × WhenRefused r.number new old
  pub output : (bytes old new : List ℕ) (r : Answer) → OutputWritten bytes old new r → AnswersExactly (output_tests (length old)) r × WhenRefused r.number new old

-- the calls that only answer: each refusal exactly in its case, and then nothing in place of a value
pub record TellingCalls : Type 0 where
  pub position : (k : ℕ) (journal : List ℕ) (r : Answer) → r ≡ position_answer k journal → AnswersExactly (position_tests k journal) r
  pub decode : (facts : Facts) (word : ℕ) (r : Decoded) → r ≡ decoded_on facts word → DecodesExactly facts word r
  pub decode_anywhere : (word : ℕ) (r : Decoded) → r ≡ decoded word → DecodesExactly all_facts word r
  pub assemble : (facts : Facts) (text : List ℕ) (r : Answer) → Assembled text facts r → AssemblesExactly facts text r
  pub word : (program : List ℕ) (at : ℕ) (r : Next) → r ≡ next_word program at
      → Exactly (place_tests (length program) at) r.number × WhenRefused r.number r.word 0 × WhenRefused r.number r.at at
  pub reader : (place : Reader) (r : Read) → r ≡ read_next place
      → Exactly (place_tests (length place.program.now) place.at) r.number × WhenRefused r.number r.word 0 × WhenRefused r.number r.reader place
  pub register : (k : ℕ) (z p part : Bor (List ℕ)) (kind : Kind) (i r : ℕ) → r ≡ register_refused k z.now p.now kind i → IsPart k z p kind i part
      → Exactly (register_tests k z.now p.now kind i) r × WhenRefused r part.now [] × WhenRefused r part.ref_ptr z.ref_ptr
  pub panel : (k : ℕ) (z p : List ℕ) (source predicate size r : ℕ) (shown : List (List ℕ)) → r ≡ panel_refused k z p source predicate size
      → shown ≡ panel_answer k z p source predicate size
      → Exactly (panel_tests k z p source predicate size) r × WhenRefused r shown no_panel
  pub subtotal : (k : ℕ) (z p : List ℕ) (source predicate size : ℕ) (signed : Bool) (a b : ℕ) (r : Answer)
      → r ≡ subtotal_answer k z p source predicate size signed a b
      → AnswersExactly (subtotal_tests k z p source predicate size a b) r
  pub lane : (k : ℕ) (z p : List ℕ) (source predicate size : ℕ) (signed : Bool) (e : ℕ) (r : Lane) → r ≡ lane_answer k z p source predicate size signed e
      → Exactly (lane_tests k z p source predicate size e) r.number × WhenRefused r.number r (no_lane r.number)
  pub entry : (k : ℕ) (journal : List ℕ) (i : ℕ) (r : Held) → r ≡ entry_answer k journal i
      → Exactly (entry_tests k journal i) r.number × WhenRefused r.number r (no_entry r.number)
  pub row : (row : ℕ) (r : About) → r ≡ about_answer row → Exactly (row_tests row) r.number × WhenRefused r.number r (no_about r.number)
  pub session : (bytes : List ℕ) (r : Session) → r ≡ session_of bytes
      → Exactly (session_tests bytes) r.number × WhenRefused r.number r no_session × (r.number ≡ SESSION ↔ (IsSession bytes → ⊥))

-- demand 1: each refusal of each call exactly in its case, and all as it stood
pub record Demand1 : Type 0 where
  pub writing : WritingCalls
  pub telling : TellingCalls

-- the manual by fact: the exact sum of what feeds lane e, in elements of w bytes of the word's registers as they were: Pg, Zn, Zm and Zd
pub record ByManual (family : Family) (ps : Parameters) (w q k e : ℕ) (pg zn zm zd : List ℕ) (sum : ℤ) : Type 0 where
  -- SADDV, UADDV: all active elements of Zn, each extended at its sign; an inactive one adds zero
  pub reduction : family ≡ Low Reduction → sum ≡ total (each (active_element ps.signed w pg zn) 0 (vector_bytes k / w))
  -- ADDQV: the active elements with the same number in each 16-byte segment of Zn; an inactive one adds zero
  pub segment : family ≡ Low Segment → sum ≡ total (each (λ (i : ℕ). active_element false w pg zn (i * per_segment w + e)) 0 (vector_bytes k / segment_bytes))
  -- SADDLV, UADDLV: all elements of the low 8 bytes of Zn, or with Q of the low 16
  pub long : family ≡ Low Long → sum ≡ total (each (element ps.signed w zn) 0 (data_bytes q / w))
  -- SADALP, UADALP: the old element, and if it is active the pair of half-width elements of Zn that lie in it
  pub pairwise : family ≡ Wide Pairwise → sum
      ≡ element false w zd e
      +ℤ (counted (active w e pg) (element ps.signed (w / 2) zn (2 * e + 0)) +ℤ counted (active w e pg) (element ps.signed (w / 2) zn (2 * e + 1)))
  -- long: half-width elements of Zn and Zm, the even ones for bottom and the odd ones for top; wide: the full element of Zn; added or subtracted
  pub widening : family ≡ Wide Widening → sum
      ≡ element ps.signed (cond ps.wide w (w / 2)) zn (cond ps.wide e (selected ps.top e))
      +ℤ negated_where ps.subtract (element ps.signed (w / 2) zm (selected ps.top e))

-- what a step with a word of these fields has done, on the registers as they were before it
pub record Carries (c : Core) (program : List ℕ) (f : Fields) (b after : Buffers) : Type 0 where
  -- the word is the one that the program has at the position, and the core accepts it
  pub inside : position_of b.journal < words_of (length program)
  pub accepted : decoded_on c.facts (word_at program (position_of b.journal)) ≡ Word f
  -- the word is executed, its one destination register has its new bytes, and every other byte of both files is as it was; that register is Pd for the
  -- words that make a predicate, and else Zd
  pub target : target_of f ≡ register_from (kind_written (family_of f.row)) f.d
  pub files : after.files ≡ executed f c.k b.files
  pub destination : read c.k (target_of f) after.files ≡ destination_after f c.k b.files
  pub others : Kept c.k (target_of f) (held_of b.journal) b after
  -- each lane that it writes is the exact sum of what feeds it, modulo 2^width, and that sum is the manual's
  pub lanes : (e : ℕ) → e < lanes_for f c.k
      → lane (width_for f) e (read c.k (target_of f) after.files) ≡ residue (bits_of (width_for f)) (integer_after f c.k b.files e)
  pub sums : (e : ℕ)
      → let s = b.files in
      ByManual (family_of f.row) (form_of f.row).parameters (width_of f.size) f.q c.k e (predicate_of c.k f.g s.p)
      (vector_of c.k f.n s.z) (vector_of c.k f.m s.z) (vector_of c.k f.d s.z) (integer_after f c.k s e)
  -- a word that makes a predicate sets of Pd exactly the bits of the lanes that it names, and changes no vector
  pub makes : (made : MadeFamily) → family_of f.row ≡ Made made → Makes f c.k made b.files after.files
  -- read at its sign it is that sum, where no sum of the form and size goes past the width
  pub exact : is_exact (family_of f.row) (form_of f.row).parameters f.size ≡ true → (e : ℕ) → e < lanes_for f c.k
      → integer (answer_signed (form_of f.row).parameters) (bits_of (width_for f)) (lane (width_for f) e (read c.k (target_of f) after.files))
      ≡ integer_after f c.k b.files e

-- two states that a governed word cannot tell apart: they agree at the bit of every lane and at the active lanes' bytes, and for a pairwise
-- accumulate, which keeps its inactive lanes, at the old destination
pub record GovernedAlike (k : ℕ) (f : Fields) (s other : State) : Type 0 where
  pub governed : is_governed (family_of f.row) ≡ true
  pub agree : Agree (width_of f.size) (governed_of f k s) (governed_of f k other)
  pub old : family_of f.row ≡ Wide Pairwise → read k (target_of f) s ≡ read k (target_of f) other

-- what accepted words do
pub record AcceptedWords : Type 0 where
  -- a step that was done has done what its word means
  pub step : (c : Core) (program : List ℕ) (b after : Buffers) → Stepped c program b DONE after → Carries c program (fields_now program b.journal) b after
  -- each lane is governed by its own bit: inactive lanes and other bits do not change the destination
  pub governed : (c : Core) (program : List ℕ) (b after other left : Buffers) → Stepped c program b DONE after → Stepped c program other DONE left
      → other.journal ≡ b.journal
      → let f = fields_now program b.journal in
      GovernedAlike c.k f b.files other.files → read c.k (target_of f) after.files ≡ read c.k (target_of f) left.files

-- texts on any core
pub record RoundTrips : Type 0 where
  -- a word turned to text and read back is that word
  pub word : (facts : Facts) (word : ℕ) (old new : List ℕ) (r s : Answer) → word < 2 ^ word_digits → Named word facts old new r → r.number ≡ DONE
      → Assembled (take r.value new) facts s
      → (s.number ≡ DONE) × (s.value ≡ word)
  -- an accepted text comes back unchanged, unless the output is too short for any text
  pub text : (facts : Facts) (text old new : List ℕ) (r s : Answer) → Assembled text facts r → r.number ≡ DONE → Named r.value facts old new s
      → ((s.number ≡ OUT) × (length old < least_out)) ⊎ ((s.number ≡ DONE) × (take s.value new ≡ text))

-- demand 2: every accepted word does what the manual says, and texts and words go into each other
pub record Demand2 : Type 0 where
  pub accepted : AcceptedWords
  pub texts : RoundTrips
