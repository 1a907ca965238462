-- The tests of a line in their order: what it is asked of, then the word of a step that is told done; and what holds where none refuses.
-- Assumes nothing.
use mathlib.Core.Path.{◌≡◌, refl, sym, ◌∙◌, ap}
use mathlib.Core.Bool.{true, cond}
use mathlib.Core.List.{List, [], ◌∷◌}
use Prim.Native.Nat.{ℕ, ◌*◌, ◌%◌, ◌≤◌, ◌<◌}
use native.Mathlib.Omega.{arith}
use lib.Dec.{eqb, ltb}
use lib.ListN.{length}
use borrow.Author.Tests.{ltb-false, leb-true, eq-eqb, ne_eqb, le-ltb, lt-leb}
use Rattle.parts.proofs.Same.{both_right}
use Rattle.machine.specs.Size.{most_words, word_bytes, is_program, Files}
use Rattle.machine.specs.Refusal.{DONE, OUT, Test, out_test, first, refused, files_tests, only_where}
use Rattle.machine.proofs.Tests.{first_after, first_none, none_refused, checked, unless_refused_lem}
use Rattle.machine.proofs.Checks.{files_checked}
use Rattle.registers.specs.State.{State, read}
use Rattle.programs.specs.Word.{Next}
use Rattle.programs.specs.Word.{word_at, words_of, place_tests}
use Rattle.programs.proofs.Reading.{word_exactly}
use Rattle.facts.specs.declared.Facts.{Facts}
use Rattle.words.specs.Decode.{decoded, number_of, word_tests}
use Rattle.cores.specs.Core.{decoded_on}
use Rattle.meaning.specs.Execute.{target_of}
use Rattle.words.specs.Decode.{Decoded}
use Rattle.words.specs.declared.Fields.{Fields}
use Rattle.words.specs.Decode.{Unknown, Undefined, Word}
use Rattle.lines.specs.Line.{most_line, accepted_line, refused_line, destination_of, placed_tests, asked_word, line_refused, step_line}

-- what is known where a line is not refused for what it is asked of
pub record Ready (k : ℕ) (s : State) (program : List ℕ) (position n : ℕ) : Type 0 where
  pub files : Files k s.z s.p
  pub below : position < words_of (length program)
  pub inside : position < most_words
  pub room : most_line ≤ n

module _ (k : ℕ) (s : State) (program : List ℕ) (position n : ℕ) where
  abbrev files : List Test
  files = files_tests k (length s.z) (length s.p)

  abbrev places : List Test
  places = place_tests (length program) position

  abbrev last : ℕ
  last = cond (ltb n most_line) OUT DONE

  -- the word that is found
  pub found_right : (next : Next) → next ≡ asked_word k s program position n → next.number ≡ 0 → refused (placed_tests k s program position n) ≡ 0
  found_right next e h = sym (ap (λ (m : Next). m.number) e) ∙ h

  pub found_word : (next : Next) → next ≡ asked_word k s program position n → next.number ≡ 0 → next.word ≡ word_at program position
  found_word next e h = ap (λ (m : Next). m.word) e ∙ rw (found_right next e h)

  pub ready : refused (placed_tests k s program position n) ≡ 0 → Ready k s program position n
  ready e =
      let past-files = none_refused files tt (first places last) e in
      let past-place = none_refused places tt last past-files.1 in
      let word = (word_exactly program position).0 past-place.0 in
      record {
        files = files_checked k s.z s.p 0 (sym past-files.0) refl;
        below = word.1;
        inside = omega (arith, word.1, leb-true (length program) (word_bytes * most_words) (both_right (eqb (length program % word_bytes) 0) _ word.0));
        room = ltb-false _ _ (first_none (out_test (ltb n most_line) ∷ []) tt past-place.1).0;
      }

  -- files of their sizes, a place below the words of a program, and room: nothing that a line is asked of refuses
  pub placed_right : Files k s.z s.p → is_program (length program) ≡ true → position < words_of (length program) → most_line ≤ n
      → refused (placed_tests k s program position n) ≡ 0
  placed_right right whole below room =
      rw (right.legal, eq-eqb _ _ right.vector_size, eq-eqb _ _ right.predicate_size, whole, lt-leb _ _ below, le-ltb _ _ room)

  -- a line that is not refused
  pub line_ready : (facts : Facts) (number : ℕ) → line_refused k facts s program position number n ≡ 0 → Ready k s program position n
  unfolding line_refused
  line_ready facts number e =
      ready (none_refused (placed_tests k s program position n) tt (refused (only_where (eqb number DONE) (word_tests (decoded_on facts (word_at program position))))) e).0

  module _ (facts : Facts) (number : ℕ) (placed : refused (placed_tests k s program position n) ≡ 0) where
    abbrev word : ℕ
    word = word_at program position

    abbrev words : List Test
    words = only_where (eqb number DONE) (word_tests (decoded_on facts word))

    -- of a refused step nothing else is tested
    pub refused_passes : (number ≡ DONE → ⊥) → line_refused k facts s program position number n ≡ DONE
    unfolding line_refused
    refused_passes h = first_after (placed_tests k s program position n) (refused words) tt placed ∙ rw (ne_eqb number DONE h)

    -- of a step that is told done its word decides
    pub word_decides : number ≡ DONE → (w : ℕ) (d : Decoded) → w ≡ word → d ≡ decoded_on facts w → line_refused k facts s program position number n ≡ number_of d
    unfolding line_refused
    word_decides e w d same is =
        first_after (placed_tests k s program position n) (refused words) tt placed ∙ rw e (own (decoded_on facts word) ∙ rw (← same, ← is))
      where
        own : (d : Decoded) → refused (word_tests d) ≡ number_of d
        own Unknown = refl
        own Undefined = refl
        own (Word f) = refl

  -- the files refuse
  pub early_files : (facts : Facts) (number r : ℕ) → r ≡ refused files → (r ≡ 0 → ⊥) → r ≡ line_refused k facts s program position number n
  unfolding line_refused
  early_files facts number r e h = (checked files tt refl e).refuses h

  -- what a line is asked of refuses
  pub early : (facts : Facts) (number r : ℕ) → r ≡ refused (placed_tests k s program position n) → (r ≡ 0 → ⊥) → r ≡ line_refused k facts s program position number n
  unfolding line_refused
  early facts number r e h = (checked (placed_tests k s program position n) tt refl e).refuses h

-- the line of a refused step, and of an accepted one
module _ (k : ℕ) (s : State) (program : List ℕ) (position number word : ℕ) (is : word ≡ word_at program position) where
  pub refused_line_lem : (number ≡ DONE → ⊥) → step_line k s program position number ≡ refused_line position number word
  unfolding step_line
  refused_line_lem h = rw (← is) (unless_refused_lem number (accepted_line position word (destination_of k word s)) (refused_line position number word) h)

  pub accepted_line_lem : number ≡ DONE → (f : Fields) → decoded word ≡ Word f → (register : List ℕ) → register ≡ read k (target_of f) s
      → step_line k s program position number ≡ accepted_line position word register
  unfolding step_line
  accepted_line_lem done f accepted register shown = rw (done, ← is, accepted, shown)
