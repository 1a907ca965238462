-- A step's tests and a step back's, in their order: what an accepted one tells of the lent buffers and leaves there, and that a refused one
-- leaves all as it stood.
-- Assumes nothing.
use Prim.Native.Nat.{ℕ, ◌≤◌}
use mathlib.Core.Path.{◌≡◌, refl, sym, ◌∙◌, ap}
use mathlib.Core.Bool.{true, false}
use mathlib.Core.List.{List, ◌++◌}
use lib.Dec.{eqb}
use borrow.Author.Tests.{leb-true, not-false}
use Rattle.machine.specs.Refusal.{Test, UNKNOWN, UNDEFINED, refused, first}
use Rattle.machine.proofs.Tests.{first_none, first_after, checked, none_refused, unless_refused_lem}
use Rattle.registers.specs.Register.{entry_number}
use Rattle.registers.specs.State.{State, Sized, contents}
use Rattle.rows.specs.Table.{family_of}
use Rattle.facts.specs.declared.Facts.{Facts}
use Rattle.words.specs.Decode.{decoded, number_of, fields_of, word_tests}
use Rattle.words.specs.declared.Fields.{Fields}
use Rattle.words.specs.Decode.{Decoded}
use Rattle.words.specs.Decode.{Unknown, Undefined, Word}
use Rattle.words.proofs.Encoding.{decoded_in_range}
use Rattle.cores.specs.Core.{decoded_on}
use Rattle.cores.proofs.Answers.{core_decodes}
use Rattle.meaning.specs.Needs.{Executable}
use Rattle.meaning.specs.Execute.{kind_written, target_of}
use Rattle.meaning.proofs.Effects.{target_is, target_register}
use Rattle.entries.specs.Layout.{greatest_of, may_name, is_full}
use Rattle.appends.specs.Needs.{Append}
use Rattle.journal.specs.Left.{Core, Buffers, left_with}
use Rattle.journal.specs.Calls.{start_tests, start_refused, back_tests, back_refused}
use Rattle.journal.proofs.Left.{refused_leaves, done_leaves}
use Rattle.journal.proofs.Accepted.{Started, started, Returning, returning, returns_accepted, can_append}
use Rattle.steps.specs.Calls.{word_now, fields_now, past_tests, step_tests, carried_out, taken_back, step_by, stepped, performed, backed}
use Rattle.steps.specs.Needs.{Ready}

-- the tests of a step once its word is read
abbrev late_tests : ℕ → Decoded → List ℕ → List Test
late_tests k word journal = word_tests word ++ past_tests k (fields_of word) journal

-- a word that is neither UNKNOWN nor UNDEFINED is its fields
word_of : (x : Decoded) → eqb (number_of x) UNKNOWN ≡ false → eqb (number_of x) UNDEFINED ≡ false → x ≡ Word (fields_of x)
word_of Unknown p q = cc
word_of Undefined p q = cc
word_of (Word f) p q = refl

-- a word that the core accepts has the fields that it decodes to on any
accepted_fields : (facts : Facts) (word : ℕ) → decoded_on facts word ≡ Word (fields_of (decoded_on facts word)) → decoded_on facts word ≡ Word (fields_of (decoded word))
accepted_fields facts word e = e ∙ ap (λ (d : Decoded). Word (fields_of d)) (e ∙ sym (core_decodes facts word _ e))

-- the register that an accepted word writes may be named
accepted_named : (d : Decoded) (f : Fields) (journal : List ℕ) → d ≡ Word f → may_name (entry_number (target_of (fields_of d))) journal ≡ true
    → may_name (entry_number (target_of f)) journal ≡ true
accepted_named d f journal is e = ap (λ (x : Decoded). may_name (entry_number (target_of (fields_of x))) journal) (sym is) ∙ e

-- an accepted word executes
pub executable : (k word : ℕ) (f : Fields) (s : State) → Sized k s → decoded word ≡ Word f → Executable f k s
executable k word f s sized e = record { lent = sized; fields = decoded_in_range word f e }

-- what is known of an accepted step, and what it leaves
pub record AcceptedStep (c : Core) (program : List ℕ) (b : Buffers) : Type 0 where
  pub start : Started c.k program b
  pub word : decoded_on c.facts (word_now program b.journal) ≡ Word (fields_now program b.journal)
  pub room : is_full c.k b.journal ≡ false
  pub executes : Executable (fields_now program b.journal) c.k b.files
  pub named : entry_number (target_of (fields_now program b.journal)) ≤ greatest_of b.journal
  pub left : (stepped c program b).after ≡ carried_out c.k (fields_now program b.journal) b

module _ (c : Core) (program : List ℕ) (b : Buffers) where
  -- the word at the position, as the core takes it
  abbrev word : Decoded
  word = decoded_on c.facts (word_now program b.journal)

  -- a step's number is the refusal of its tests: those before its word is read, then the word's, then the room's for its entry
  pub step_number : (stepped c program b).number ≡ refused (step_tests c program b)
  unfolding stepped
  step_number = refl

  -- and a step asks of the core what its word decodes to there, and nothing else
  pub step_by_lem : stepped c program b ≡ step_by c.k program b word
  unfolding stepped
  step_by_lem = refl

  step_tests_lem : refused (step_tests c program b) ≡ first (start_tests c.k program b) (refused (late_tests c.k word b.journal))
  step_tests_lem = refl

  -- a refused step leaves all as it stood
  pub step_stood : (r : ℕ) → r ≡ refused (step_tests c program b) → (r ≡ 0 → ⊥) → left_with r b ≡ stepped c program b
  unfolding stepped
  step_stood r e h = refused_leaves (step_tests c program b) (carried_out c.k (fields_now program b.journal) b) b r e h

  pub step_refused : ((stepped c program b).number ≡ 0 → ⊥) → (stepped c program b).after ≡ b
  unfolding stepped
  step_refused h = unless_refused_lem (refused (step_tests c program b)) (carried_out c.k (fields_now program b.journal) b) b h

  pub start_refused_lem : (r : ℕ) → r ≡ start_refused c.k program b → (r ≡ 0 → ⊥) → left_with r b ≡ stepped c program b
  unfolding start_refused
  start_refused_lem r e h = step_stood r ((checked (start_tests c.k program b) tt step_tests_lem e).refuses h) h

  pub word_decides : (d : Decoded) → start_refused c.k program b ≡ 0 → word ≡ d → refused (step_tests c program b) ≡ refused (late_tests c.k d b.journal)
  unfolding start_refused
  word_decides d e is =
      step_tests_lem
      ∙ first_after (start_tests c.k program b) (refused (late_tests c.k word b.journal)) tt e
      ∙ ap (λ (w : Decoded). refused (late_tests c.k w b.journal)) is

  -- what is left past an accepted word is what the step leaves
  pub word_performed : (f : Fields) → start_refused c.k program b ≡ 0 → word ≡ Word f → performed c.k f b ≡ stepped c program b
  unfolding stepped performed
  word_performed f e d =
      let n : refused (step_tests c program b) ≡ refused (past_tests c.k f b.journal) = word_decides (Word f) e d in
      let decodes = core_decodes c.facts (word_now program b.journal) f d in
      rw (n, decodes)

  pub step_accepted : (stepped c program b).number ≡ 0 → AcceptedStep c program b
  unfolding start_refused stepped
  step_accepted e =
      let at = word_now program b.journal in
      let none = none_refused (start_tests c.k program b) tt (refused (late_tests c.k word b.journal)) e in
      let late = first_none (late_tests c.k word b.journal) tt none.1 in
      let begun = started c.k program b none.0 in
      let known = accepted_fields c.facts at (word_of word late.0 late.1.0) in
      let f = fields_now program b.journal in
      let executes = executable c.k at f b.files begun.sized (core_decodes c.facts at f known) in
      record {
        start = begun;
        word = known;
        room = late.1.1.1.0;
        executes = executes;
        named = leb-true _ _ (accepted_named word f b.journal known (not-false _ late.1.1.0));
        left = rw e;
      }

module _ (k : ℕ) (b : Buffers) where
  -- a step back's number is the refusal of its tests
  pub back_tests_lem : (backed k b).number ≡ refused (back_tests k b)
  unfolding backed
  back_tests_lem = refl

  pub back_number : (backed k b).number ≡ back_refused k b
  unfolding backed back_refused
  back_number = refl

  -- a refused step back leaves all as it stood
  pub back_stood : (r : ℕ) → r ≡ back_refused k b → (r ≡ 0 → ⊥) → left_with r b ≡ backed k b
  unfolding backed back_refused
  back_stood r e h = refused_leaves (back_tests k b) (taken_back k b) b r e h

  pub back_refused_lem : ((backed k b).number ≡ 0 → ⊥) → (backed k b).after ≡ b
  unfolding backed
  back_refused_lem h = unless_refused_lem (refused (back_tests k b)) (taken_back k b) b h

  -- an accepted one has taken the last entry back
  pub back_taken : back_refused k b ≡ 0 → left_with 0 (taken_back k b) ≡ backed k b
  unfolding backed back_refused
  back_taken e = done_leaves (back_tests k b) (taken_back k b) b 0 refl e

-- what is known of an accepted step back, and what it leaves
pub record AcceptedBack (k : ℕ) (b : Buffers) : Type 0 where
  pub start : Returning k b
  pub left : (backed k b).after ≡ taken_back k b

pub back_accepted : (k : ℕ) (b : Buffers) → (backed k b).number ≡ 0 → AcceptedBack k b
unfolding backed back_refused
back_accepted k b e = record { start = returning k b e; left = rw e }

-- and buffers that it asks for are accepted
pub back_accepts : (k : ℕ) (b : Buffers) → Returning k b → (backed k b).number ≡ 0
back_accepts k b r = back_number k b ∙ returns_accepted k b r

-- a step that has room for its entry can append that of the register which its word writes
pub can_append_target : (k : ℕ) (f : Fields) (b : Buffers) → Ready k f b → is_full k b.journal ≡ false
    → let kind = kind_written (family_of f.row) in Append k kind f.d (contents kind b.files) b.journal
can_append_target k f b ready room =
    rw (target_is f) at
    (can_append k (target_of f) b ready.word.lent ready.formed (target_register f k b.files ready.word) room)
