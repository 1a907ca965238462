-- `write_line` meets its contract: what the line is asked of refuses, or the word of a step that is told done, or the line is written.
-- Assumes nothing.
use Rattle.std.proofs.Common.{ℕ, List, ◌≡◌, ◌≤◌, refl, sym, ap, ◌∙◌, Result, Ok, arith, length}
use native.Mathlib.Nat.{le_trans}
use Rattle.facts.specs.declared.Facts.{Facts}
use Rattle.machine.specs.Size.{most_length, most_words, vector_bytes}
use Rattle.machine.specs.declared.refusal.Refusal.{Refusal}
use Rattle.machine.specs.Refusal.{DONE, code, answered, answer_of, refused}
use Rattle.machine.proofs.Codes.{passed_on, code_not_done}
use Rattle.machine.proofs.Checks.{legal_most}
use Rattle.registers.specs.State.{State, state, read}
use Rattle.registers.proofs.Places.{bytes_few}
use Rattle.registers.proofs.States.{read_most}
use Rattle.words.specs.Decode.{decoded, number_of}
use Rattle.words.specs.declared.Fields.{Fields}
use Rattle.words.specs.Decode.{Decoded}
use Rattle.words.specs.Decode.{Word, decoding}
use Rattle.words.proofs.Answers.{decoding_number, decoding_tells}
use Rattle.words.proofs.Encoding.{decoded_in_range}
use Rattle.cores.specs.Core.{decoded_on}
use Rattle.cores.proofs.Answers.{core_decodes}
use Rattle.meaning.specs.Execute.{target_of}
use Rattle.meaning.specs.Needs.{Executable}
use Rattle.programs.specs.Word.{Next, next_in, word_at}
use Rattle.std.specs.Result.{IsErrAnd}
use Rattle.lines.specs.Line.{Written, asked_word, placed_tests, line_refused, refused_line, accepted_line}
use Rattle.lines.proofs.Lines.{written_refused, written_done}
use Rattle.lines.proofs.Longest.{refused_most, accepted_most, accepted_room}
use Rattle.lines.proofs.Placed.{Ready, ready, early, found_right, found_word, early_files, refused_passes, word_decides, refused_line_lem, accepted_line_lem}
use Rattle.lines.proofs.write_line.Goals as goal

-- a refusal that is passed on is the line's, where its number is
module _ (refusal : ℕ) (line old : List ℕ) (r : Result ℕ Refusal) (e : Refusal) where
  refuses : IsErrAnd r (λ f. f ≡ e) → code e ≡ refusal → Written refusal line old old (answer_of r)
  refuses passed is = written_refused refusal line old (answer_of r) (code e) (ap answer_of (passed_on r e passed)) is (code_not_done e)

-- what is asked has the number that is answered
number_of_next : (a b : Next) → a ≡ b → a.number ≡ b.number
number_of_next a b e = ap (λ (m : Next). m.number) e

-- a register that is read is not longer than the longest
few : (k : ℕ) (f : Fields) (s : State) (register : List ℕ) → Executable f k s → register ≡ read k (target_of f) s → length register ≤ vector_bytes most_length
few k f s register executes is =
    let r = target_of f in
    omega (arith, ap length is, read_most k r s, bytes_few k r.kind (legal_most k executes.lent.legal))

-- past the test of the place: the word that was found
module _ (k : ℕ) (s : State) (program : List ℕ) (position n : ℕ) (next : Next) (found : next ≡ asked_word k s program position n) (right : next.number ≡ 0) where
  -- what the line is asked of is right, and the word is the program's
  placed : refused (placed_tests k s program position n) ≡ 0
  placed = found_right k s program position n next found right

  known : Ready k s program position n
  known = ready k s program position n placed

  is_word : next.word ≡ word_at program position
  is_word = found_word k s program position n next found right

  -- of a step that is told done the word decides
  decides : (facts : Facts) (number : ℕ) (d : Decoded) → number ≡ DONE → d ≡ decoded_on facts next.word
      → line_refused k facts s program position number n ≡ number_of d
  decides facts number d done is = word_decides k s program position n facts number placed done next.word d is_word is

  -- an accepted word executes on the files, and its line has room, in which naming has its own
  accepted : (facts : Facts) (f : Fields) → Word f ≡ decoded_on facts next.word → decoded next.word ≡ Word f
  accepted facts f is = core_decodes _ _ _ (sym is)

  executes : (facts : Facts) (f : Fields) → Word f ≡ decoded_on facts next.word → Executable f k s
  executes facts f is = record { lent = known.files; fields = decoded_in_range _ _ (accepted facts f is) }

  inside : position ≤ most_words
  inside = let below = known.inside in omega arith

  roomy : (facts : Facts) (f : Fields) → Word f ≡ decoded_on facts next.word → (register : List ℕ) → register ≡ read k (target_of f) s
      → length (accepted_line position next.word register) ≤ n
  roomy facts f is register shown =
      omega (arith, known.room, few k f s register (executes facts f is) shown, accepted_most position inside next.word register)

pub returns-in_err-files : goal.returns-in_err-files
returns-in_err-files c =
    let a = c.args in
    refuses _ _ _ _ _ c.from_residual.ensures.1
    (early_files a.core.k (state a.z.now a.p.now) a.program.now a.position (length a.out.now) a.core.facts a.number _ c.in_err-files.ensures.number (code_not_done _))

pub returns-in_err-found : goal.returns-in_err-found
returns-in_err-found c =
    let a = c.args in
    let lent = c.in_ok-files.ensures.files in
    let asked = rw (lent.0, lent.1, lent.2) at c.in_err-found.ensures in
    refuses _ _ _ _ _ c.from_residual-in_err-found.ensures.1
    (early a.core.k (state a.z.now a.p.now) a.program.now a.position (length a.out.now) a.core.facts a.number _ (number_of_next _ _ asked) (code_not_done _))

pub put_refused-requires : goal.put_refused-requires
put_refused-requires c =
    let a = c.args in
    let lent = c.in_ok-files.ensures.files in
    let found = rw (lent.0, lent.1, lent.2) at c.in_ok-found.ensures in
    le_trans (refused_most _ _ _) (known a.core.k (state a.z.now a.p.now) a.program.now a.position (length a.out.now) _ found refl).room

pub returns-then-number : goal.returns-then-number
returns-then-number c =
    let a = c.args in
    let s = state a.z.now a.p.now in
    let n = length a.out.now in
    let lent = c.in_ok-files.ensures.files in
    let found = rw (lent.0, lent.1, lent.2) at c.in_ok-found.ensures in
    let next = next_in a.position (Ok c.in_ok-found.found) in
    let other = c.if-number.true in
    written_done _ _ _ _ _ (refused_line a.position a.number next.word) _ refl
    (refused_passes a.core.k s a.program.now a.position n a.core.facts a.number (placed a.core.k s a.program.now a.position n next found refl) other)
    (refused_line_lem a.core.k s a.program.now a.position a.number next.word (is_word a.core.k s a.program.now a.position n next found refl) other)
    (le_trans (refused_most a.position a.number next.word) (known a.core.k s a.program.now a.position n next found refl).room)
    c.put_refused.ensures

pub returns-in_err-fields : goal.returns-in_err-fields
returns-in_err-fields c =
    let a = c.args in
    let lent = c.in_ok-files.ensures.files in
    let found = rw (lent.0, lent.1, lent.2) at c.in_ok-found.ensures in
    let word = decoded_on a.core.facts c.in_ok-found.found.word in
    refuses _ _ _ _ _ c.from_residual-in_err-fields.ensures.1
    (ap answered c.in_err-fields.ensures
    ∙ decoding_number word
    ∙ sym (decides a.core.k (state a.z.now a.p.now) a.program.now a.position (length a.out.now) _ found refl a.core.facts a.number word c.if-number.false refl))

-- the fields of an accepted word are what it decodes to on the core
fields_of_word : (facts : Facts) (word : ℕ) (f : Fields) → Ok f ≡ decoding (decoded_on facts word) → Word f ≡ decoded_on facts word
fields_of_word facts word f e = decoding_tells (Word f) (decoded_on facts word) e

pub register_written-register-requires : goal.register_written-register-requires
register_written-register-requires c =
    decoded_in_range _ _ (core_decodes c.args.core.facts c.in_ok-found.found.word _ (sym (fields_of_word _ _ _ c.in_ok-fields.ensures)))

pub put_accepted-requires : goal.put_accepted-requires
put_accepted-requires c =
    let a = c.args in
    let s = state a.z.now a.p.now in
    let n = length a.out.now in
    let lent = c.in_ok-files.ensures.files in
    let found = rw (lent.0, lent.1, lent.2) at c.in_ok-found.ensures in
    let next = next_in a.position (Ok c.in_ok-found.found) in
    let shown = rw (lent.0, lent.1, lent.2) at c.register_written-register.ensures in (
      le_trans (accepted_room a.position (inside a.core.k s a.program.now a.position n next found refl))
          (known a.core.k s a.program.now a.position n next found refl).room,
      roomy a.core.k s a.program.now a.position n next found refl a.core.facts c.in_ok-fields.fields (fields_of_word _ _ _ c.in_ok-fields.ensures) _ shown,
    )

pub returns : goal.returns
returns c =
    let a = c.args in
    let s = state a.z.now a.p.now in
    let n = length a.out.now in
    let lent = c.in_ok-files.ensures.files in
    let found = rw (lent.0, lent.1, lent.2) at c.in_ok-found.ensures in
    let next = next_in a.position (Ok c.in_ok-found.found) in
    let register = c.register_written-register in
    let shown = rw (lent.0, lent.1, lent.2) at register.ensures in
    let word = fields_of_word _ _ _ c.in_ok-fields.ensures in
    written_done _ _ _ _ _ (accepted_line a.position next.word register.result.now) _ refl
    (decides a.core.k s a.program.now a.position n next found refl a.core.facts a.number (Word c.in_ok-fields.fields) c.if-number.false word)
    (accepted_line_lem a.core.k s a.program.now a.position a.number next.word (is_word a.core.k s a.program.now a.position n next found refl) c.if-number.false
    c.in_ok-fields.fields (accepted a.core.k s a.program.now a.position n next found refl a.core.facts c.in_ok-fields.fields word) _ shown)
    (roomy a.core.k s a.program.now a.position n next found refl a.core.facts c.in_ok-fields.fields word _ shown)
    c.put_accepted.ensures
