-- A reader's walk: PROGRAM, END and a word each come exactly in their case; with a refusal the reader is itself, unmoved; and after n
-- answers from the first word on it stands at word n, which it answers next.
-- Assumes nothing.
use Prim.Native.Nat.{ℕ, zero, suc, ◌+◌, ◌≤◌, ◌<◌}
use mathlib.Core.Path.{◌≡◌, refl, ◌∙◌, ap}
use mathlib.Core.Bool.{true}
use mathlib.Core.Logic.{◌↔◌}
use mathlib.Core.List.{List}
use denote.Ref.{Bor}
use lib.ListN.{length}
use borrow.Author.Tests.{le-leb, lt-leb, leb-false, not-false}
use native.Mathlib.Omega.{arith}
use native.Mathlib.Numerals.{add-one}
use Rattle.machine.specs.Size.{is_program}
use Rattle.machine.specs.Refusal.{DONE, END, First, in_order}
use Rattle.programs.specs.declared.reader.Reader.{Reader}
use Rattle.programs.specs.Word.{word_at, words_of, place_tests, next_refused}
use Rattle.programs.specs.Read.{reader_at, told_by, read_next, walked}
use Rattle.machine.proofs.Tests.{first_none, first_exactly}
use Rattle.programs.proofs.Words.{found_refused}

-- the tests stand in the paper's order
pub place_in_order : (n at : ℕ) → in_order (place_tests n at) ≡ true
place_in_order n at = refl

-- a word exactly where the program is whole words, not too many, and the place is below their number
pub word_exactly : (program : List ℕ) (at : ℕ) → next_refused program at ≡ DONE ↔ (is_program (length program) ≡ true) × (at < words_of (length program))
word_exactly program at = (
  λ e. let n = first_none (place_tests (length program) at) tt e in (not-false _ n.0, leb-false _ _ n.1.0),
  λ h. rw (h.0, lt-leb _ _ h.1),
)

-- each refusal exactly where its test holds and none before it does
pub next_refused_exactly : (program : List ℕ) (at n : ℕ) → next_refused program at ≡ suc n ↔ First (place_tests (length program) at) (suc n)
next_refused_exactly program at n = first_exactly (place_tests (length program) at) n

-- with a refusal there is no word, and the reader is itself
pub read_unmoved : (r : Reader) → (next_refused r.program.now r.at ≡ DONE → ⊥)
    → read_next r ≡ record { number = next_refused r.program.now r.at; word = 0; reader = r }
read_unmoved r h = ap (told_by r.program) (found_refused (next_refused r.program.now r.at) (word_at r.program.now r.at) r.at h)

-- with none there is the word at the reader's place, and the reader has moved on by one
pub read_moved : (r : Reader) → next_refused r.program.now r.at ≡ DONE
    → read_next r ≡ record { number = DONE; word = word_at r.program.now r.at; reader = reader_at r.program (r.at + 1) }
read_moved r e = rw e

-- after n answers the reader stands at word n
pub walked_place : (program : Bor (List ℕ)) (n : ℕ) → is_program (length program.now) ≡ true → n ≤ words_of (length program.now)
    → walked n (reader_at program 0) ≡ reader_at program n
walked_place program zero legal h = refl
walked_place program (suc n) legal h =
    ap (λ (r : Reader). (read_next r).reader) (walked_place program n legal (omega arith))
    ∙ rw ((word_exactly program.now n).1 (legal, omega arith), add-one)

-- and answers it next
pub walked_word : (program : Bor (List ℕ)) (n : ℕ) → is_program (length program.now) ≡ true → n < words_of (length program.now)
    → read_next (walked n (reader_at program 0)) ≡ record { number = DONE; word = word_at program.now n; reader = reader_at program (n + 1) }
walked_word program n legal h =
    ap read_next (walked_place program n legal (omega arith)) ∙ read_moved (reader_at program n) ((word_exactly program.now n).1 (legal, h))

-- and at the end it stays
pub walked_end : (program : Bor (List ℕ)) (at : ℕ) → is_program (length program.now) ≡ true → words_of (length program.now) ≤ at
    → read_next (reader_at program at) ≡ record { number = END; word = 0; reader = reader_at program at }
walked_end program at legal h = rw (legal, le-leb _ _ h)
