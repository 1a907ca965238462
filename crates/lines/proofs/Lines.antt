-- A line that is written, and the refusals of one in their order; that the contracts of the calls that write lines allow one result.
-- Assumes nothing.
use mathlib.Core.Path.{◌≡◌, refl, sym, ◌∙◌, ap}
use mathlib.Core.Bool.{true}
use mathlib.Core.Logic.{◌↔◌}
use mathlib.Core.List.{List, [], ◌∷◌}
use Prim.Native.Nat.{ℕ, zero, suc, ◌+◌, ◌≤◌}
use native.Mathlib.Nat.{zero-add}
use native.Mathlib.Omega.{arith}
use lib.Dec.{ltb}
use lib.ListN.{length, length-append}
use lib.Seq.{sets-eq}
use borrow.Author.Tests.{le-ltb}
use Rattle.machine.specs.Refusal.{DONE, in_order, First, out_test, refused, unless_refused, answer}
use Rattle.machine.specs.Refusal.{Answer}
use Rattle.machine.proofs.Tests.{first_exactly, refused_answer, done_answer, kept}
use Rattle.registers.specs.State.{State}
use Rattle.words.specs.Decode.{decoded, word_tests}
use Rattle.words.specs.Decode.{Decoded}
use Rattle.words.specs.Decode.{Unknown, Undefined, Word}
use Rattle.facts.specs.declared.Facts.{Facts}
use Rattle.facts.specs.Facts.{all_facts}
use Rattle.cores.proofs.Answers.{on_all}
use Rattle.digits.specs.Put.{Put}
use Rattle.names.specs.Named.{least_out, text_of_decoded, text_of_word, name_refused, Named}
use Rattle.names.proofs.Pieces.{word_length}
use Rattle.parts.specs.Part.{laid}
use Rattle.lines.specs.Line.{with_newline, line_tests, line_refused, session_line_tests, Written}

-- a field with its newline
pub ended_length : (field : List ℕ) → length (with_newline field) ≡ length field + 1
ended_length field = length-append field (10 ∷ [])

-- the tests of a line are in the paper's order
pub line_in_order : (k : ℕ) (facts : Facts) (s : State) (program : List ℕ) (position number n : ℕ) → in_order (line_tests k facts s program position number n) ≡ true
line_in_order k facts s program position number n = refl

-- each refusal of a line comes exactly where its test holds and none before it does
pub line_exactly : (k : ℕ) (facts : Facts) (s : State) (program : List ℕ) (position number n m : ℕ)
    → line_refused k facts s program position number n ≡ suc m ↔ First (line_tests k facts s program position number n) (suc m)
unfolding line_refused
line_exactly k facts s program position number n m = first_exactly (line_tests k facts s program position number n) m

-- and of the line of what is no session, whose one test is OUT's
pub session_line_in_order : (n : ℕ) → in_order (session_line_tests n) ≡ true
session_line_in_order n = refl

pub session_line_exactly : (n m : ℕ) → refused (session_line_tests n) ≡ suc m ↔ First (session_line_tests n) (suc m)
session_line_exactly n m = first_exactly (session_line_tests n) m

-- two results that the contract of a call that writes at the front allows are the same
pub line_determined : (refusal : ℕ) (line old new new' : List ℕ) (r r' : Answer) → Written refusal line old new r → Written refusal line old new' r'
    → (r ≡ r') × (new ≡ new')
line_determined refusal line old new new' r r' a b = (a.answered ∙ sym b.answered, a.bytes ∙ sym b.bytes)

module _ (refusal : ℕ) (line old : List ℕ) where
  -- a call that is refused
  pub written_refused : (r : Answer) (n : ℕ) → r ≡ record { number = n; value = 0 } → n ≡ refusal → (n ≡ DONE → ⊥) → Written refusal line old old r
  written_refused r n is e h =
      record {
        answered = is ∙ refused_answer n refusal (length line) e h;
        bytes = ap (λ (l : List ℕ). laid l old) (kept refusal n line [] e h);
      }

  -- a call that is done, with a piece that is the line
  pub written_done : (r : Answer) (new piece : List ℕ) (count : ℕ) → r ≡ record { number = DONE; value = count } → refusal ≡ DONE → line ≡ piece
      → length piece ≤ length old → Put old 0 piece new count → Written refusal line old new r
  written_done r new piece count is e same fits put =
      rw (e, same)
      (record {
        answered = is ∙ done_answer DONE DONE count (length piece) refl refl (put.after ∙ zero-add _);
        bytes = put.bytes ∙ sets-eq piece old 0 (omega arith) ∙ rw zero-add;
      })

  -- what is written is a piece at the front, and the answer the place after it
  pub written_put : (new : List ℕ) (r : Answer) → Written refusal line old new r → length (unless_refused refusal line []) ≤ length old
      → Put old 0 (unless_refused refusal line []) new r.value
  written_put new r w fits =
      record {
        bytes = w.bytes ∙ sym (sets-eq (unless_refused refusal line []) old 0 (rw zero-add fits) ∙ rw zero-add);
        after = ap (λ (a : Answer). a.value) w.answered ∙ value refusal ∙ sym (zero-add _);
      }
    where
      value : (n : ℕ) → (answer n (length line)).value ≡ length (unless_refused n line [])
      value zero = refl
      value (suc n) = refl

-- a word's text that is named into room enough, on a core with all facts, is a piece at the front
pub named_put : (word : ℕ) (facts : Facts) (old new : List ℕ) (r : Answer) → facts ≡ all_facts → least_out ≤ length old → Named word facts old new r
    → Put old 0 (text_of_word word) new r.value
named_put word facts old new r all h w =
    rw kept at
    (written_put (name_refused (length old) word facts) (text_of_word word) old new r (record { answered = w.answered; bytes = w.bytes })
    (rw kept (omega (arith, word_length word))))
  where
    text_kept : (d : Decoded) (n : ℕ) → least_out ≤ n → unless_refused (refused (out_test (ltb n least_out) ∷ word_tests d)) (text_of_decoded d) [] ≡ text_of_decoded d
    text_kept Unknown n h = rw (le-ltb _ _ h)
    text_kept Undefined n h = rw (le-ltb _ _ h)
    text_kept (Word f) n h = rw (le-ltb _ _ h)

    kept : unless_refused (name_refused (length old) word facts) (text_of_word word) [] ≡ text_of_word word
    kept = rw (all, on_all word) (text_kept (decoded word) (length old) h)
