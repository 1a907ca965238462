-- What the calls' tests tell where nothing refuses: of fresh, of a step before its word is read, of a step back, of a position and of an entry; and that
-- all but the step ask no more. So a register's entry can be appended, and the last one taken back.
-- Assumes nothing.
use Prim.Native.Nat.{ℕ, ◌+◌, ◌*◌, ◌%◌, ◌≤◌, ◌<◌}
use mathlib.Core.Path.{◌≡◌, refl, sym, ◌∙◌}
use mathlib.Core.Bool.{true, false}
use mathlib.Core.List.{List, ◌++◌}
use native.Mathlib.Omega.{arith}
use lib.Dec.{eqb}
use lib.ListN.{length, get_or}
use borrow.Author.Tests.{leb-true, leb-false, lt-leb, eqb-false, ne_eqb, eq-eqb, not-false}
use Rattle.parts.proofs.Same.{both_right}
use Rattle.machine.specs.Size.{is_legal, is_program, word_bytes, most_words}
use Rattle.machine.specs.Refusal.{length_tests, program_tests, refused}
use Rattle.machine.proofs.Tests.{first_none, first_after, none_refused, unless_refused_lem}
use Rattle.machine.proofs.Checks.{files_checked, legal_most}
use Rattle.registers.specs.Register.{Register, IsRegister, register_bytes, numbered}
use Rattle.registers.specs.State.{Sized, contents}
use Rattle.registers.proofs.States.{register_in}
use Rattle.programs.specs.Word.{words_of, end_tests}
use Rattle.entries.specs.Layout.{is_version, is_room, version_of, held_of, position_of, entry_at, last_entry, is_full, fresh_journal}
use Rattle.entries.specs.Formed.{Formed}
use Rattle.entries.specs.Tests.{journal_tests}
use Rattle.entries.specs.Needs.{EntryInside}
use Rattle.appends.specs.Needs.{Append, TakeBack}
use Rattle.entries.proofs.Versions.{greatest_is}
use Rattle.entries.proofs.Slots.{entry_inside}
use Rattle.entries.proofs.Formed.{length_legal, journal_checked, formed_passes}
use Rattle.entries.proofs.Written.{full_room, last_named}
use Rattle.journal.specs.Left.{Buffers}
use Rattle.journal.specs.Calls.{fresh_tests, freshened, buffer_tests, empty_tests, start_refused, back_refused}
use Rattle.journal.specs.Calls.{position_tests, position_refused, entry_tests, entry_refused, entry_answer}
use Rattle.journal.specs.Calls.{Held}

-- what fresh answers is the refusal of its tests, and with none it leaves a fresh journal
module _ (k version : ℕ) (journal : List ℕ) where
  pub fresh_number : (freshened k version journal).number ≡ refused (fresh_tests k version journal)
  unfolding freshened
  fresh_number = refl

  pub fresh_done : (freshened k version journal).number ≡ 0 → (freshened k version journal).after ≡ fresh_journal version k (length journal)
  unfolding freshened
  fresh_done e = rw e

  pub fresh_refused : ((freshened k version journal).number ≡ 0 → ⊥) → (freshened k version journal).after ≡ journal
  unfolding freshened
  fresh_refused h = unless_refused_lem (refused (fresh_tests k version journal)) (fresh_journal version k (length journal)) journal h

-- what is known where a fresh journal is made
pub record AcceptedFresh (k version : ℕ) (journal : List ℕ) : Type 0 where
  pub legal : is_legal k ≡ true
  pub room : is_room version (length journal) ≡ true
  pub versioned : is_version version ≡ true

pub fresh_passes : (k version : ℕ) (journal : List ℕ) → refused (fresh_tests k version journal) ≡ 0 → AcceptedFresh k version journal
fresh_passes k version journal e =
    let none = first_none (fresh_tests k version journal) tt e in
    record { legal = not-false _ none.0; room = not-false _ none.1.0; versioned = not-false _ none.1.1.0 }

pub fresh_accepted : (k version : ℕ) (journal : List ℕ) → (freshened k version journal).number ≡ 0 → AcceptedFresh k version journal
fresh_accepted k version journal e = fresh_passes k version journal (sym (fresh_number k version journal) ∙ e)

-- and that is all that it asks
pub fresh_accepts : (k version : ℕ) (journal : List ℕ) → AcceptedFresh k version journal → (freshened k version journal).number ≡ 0
fresh_accepts k version journal a = fresh_number k version journal ∙ rw (a.legal, a.room, a.versioned)

-- the words of a program are at most as many as one may have
words_few : (n : ℕ) → is_program n ≡ true → words_of n ≤ most_words
words_few n e = omega (arith, leb-true n (word_bytes * most_words) (both_right (eqb (n % word_bytes) 0) _ e))

-- what is known past the tests before the word
pub record Started (k : ℕ) (program : List ℕ) (b : Buffers) : Type 0 where
  pub sized : Sized k b.files
  pub formed : Formed k b.journal
  pub inside : position_of b.journal < words_of (length program)
  pub few : position_of b.journal < most_words

pub started : (k : ℕ) (program : List ℕ) (b : Buffers) → start_refused k program b ≡ 0 → Started k program b
unfolding start_refused
started k program b e =
    let ends = end_tests (length program) (position_of b.journal) in
    let files = none_refused (buffer_tests k b) tt (refused (program_tests (length program) ++ journal_tests k b.journal ++ ends)) e in
    let words = none_refused (program_tests (length program)) tt (refused (journal_tests k b.journal ++ ends)) files.1 in
    let form = none_refused (journal_tests k b.journal) tt (refused ends) words.1 in
    let lies = leb-false (words_of (length program)) (position_of b.journal) (first_none ends tt form.1).0 in
    record {
      sized = files_checked k b.files.z b.files.p _ refl files.0;
      formed = journal_checked k _ b.journal refl form.0;
      inside = lies;
      few = omega (arith, lies, words_few (length program) (not-false _ (first_none (program_tests (length program)) tt words.0).0));
    }

-- what is known past the tests of a step back
pub record Returning (k : ℕ) (b : Buffers) : Type 0 where
  pub sized : Sized k b.files
  pub formed : Formed k b.journal
  pub some : 0 < held_of b.journal

pub returning : (k : ℕ) (b : Buffers) → back_refused k b ≡ 0 → Returning k b
unfolding back_refused
returning k b e =
    let files = none_refused (buffer_tests k b) tt (refused (journal_tests k b.journal ++ empty_tests b.journal)) e in
    let form = none_refused (journal_tests k b.journal) tt (refused (empty_tests b.journal)) files.1 in
    record {
      sized = files_checked k b.files.z b.files.p _ refl files.0;
      formed = journal_checked k _ b.journal refl form.0;
      some = omega (arith, eqb-false (held_of b.journal) 0 (first_none (empty_tests b.journal) tt form.1).0);
    }

-- and that is all that it asks
pub returns_accepted : (k : ℕ) (b : Buffers) → Returning k b → back_refused k b ≡ 0
unfolding back_refused
returns_accepted k b r =
    let no : eqb (held_of b.journal) 0 ≡ false = ne_eqb (held_of b.journal) 0 (λ (e : held_of b.journal ≡ 0). omega (arith, r.some)) in
    rw (r.sized.legal, eq-eqb _ _ r.sized.vector_size, eq-eqb _ _ r.sized.predicate_size)
    (first_after (journal_tests k b.journal) (refused (empty_tests b.journal)) tt (formed_passes k b.journal r.formed) ∙ rw no)

-- the last entry names a register that there is, and lies inside
pub last_register : (k : ℕ) (b : Buffers) → Returning k b → IsRegister (numbered (last_entry k b.journal).number)
last_register k b r = greatest_is (version_of b.journal) _ (last_named k b.journal r.formed r.some)

pub can_take_back : (k : ℕ) (b : Buffers) → Returning k b → TakeBack k b.files b.journal
can_take_back k b r =
    record {
      sized = r.sized;
      some = r.some;
      last = record {
        headed = record { legal = legal_most k r.sized.legal; header = r.formed.least };
        place = omega (arith, r.formed.fits, r.some);
      };
      register = last_register k b r;
    }

-- a register that there is can be appended to a well-formed journal that is not full
pub can_append : (k : ℕ) (r : Register) (b : Buffers) → Sized k b.files → Formed k b.journal → IsRegister r → is_full k b.journal ≡ false
    → Append k r.kind r.number (contents r.kind b.files) b.journal
can_append k r b sized formed is room =
    record {
      register = register_in k r b.files sized is;
      entry = record {
        headed = record { legal = legal_most k sized.legal; header = formed.least };
        place = full_room k b.journal room formed;
      };
    }

-- what is known where a position is answered
pub record AcceptedPosition (k : ℕ) (journal : List ℕ) : Type 0 where
  pub legal : is_legal k ≡ true
  pub formed : Formed k journal

pub position_accepted : (k : ℕ) (journal : List ℕ) → position_refused k journal ≡ 0 → AcceptedPosition k journal
unfolding position_refused
position_accepted k journal e =
    let none = none_refused (length_tests k) tt (refused (journal_tests k journal)) e in
    record { legal = length_legal k _ refl none.0; formed = journal_checked k _ journal refl none.1 }

-- and a legal length with a well-formed journal is all that it asks
pub position_accepts : (k : ℕ) (journal : List ℕ) → is_legal k ≡ true → Formed k journal → position_refused k journal ≡ 0
unfolding position_refused
position_accepts k journal legal g = rw legal (formed_passes k journal g)

-- what is known where an entry is told
pub record AcceptedEntry (k : ℕ) (journal : List ℕ) (i : ℕ) : Type 0 where
  pub position : AcceptedPosition k journal
  pub inside : i < held_of journal

pub entry_accepted : (k : ℕ) (journal : List ℕ) (i : ℕ) → entry_refused k journal i ≡ 0 → AcceptedEntry k journal i
unfolding entry_refused position_refused
entry_accepted k journal i e =
    let none = none_refused (position_tests k journal) tt _ e in
    record { position = position_accepted k journal none.0; inside = leb-false (held_of journal) i (first_none (entry_tests k journal i) tt e).1.1.1.0 }

-- and that is all that it asks
pub entry_accepts : (k : ℕ) (journal : List ℕ) (i : ℕ) → AcceptedEntry k journal i → entry_refused k journal i ≡ 0
unfolding entry_refused position_refused
entry_accepts k journal i h =
    first_after (position_tests k journal) _ tt (position_accepts k journal h.position.legal h.position.formed) ∙ rw (lt-leb (held_of journal) i h.inside)

-- such an entry has its place
pub entry_placed_in : (k : ℕ) (journal : List ℕ) (i : ℕ) → AcceptedEntry k journal i → EntryInside k i journal
entry_placed_in k journal i h =
    record {
      headed = record { legal = legal_most k h.position.legal; header = h.position.formed.least };
      place = omega (arith, h.inside, h.position.formed.fits);
    }

-- and starts inside
pub entry_within : (k : ℕ) (journal : List ℕ) (i : ℕ) → entry_refused k journal i ≡ 0 → entry_at k journal i < length journal
entry_within k journal i e =
    let placed = entry_placed_in k journal i (entry_accepted k journal i e) in
    omega (arith, entry_inside k i journal placed.headed.header placed.place)

-- what is told of it, from its place and its register's bytes
pub entry_told_lem : (k : ℕ) (journal : List ℕ) (i : ℕ) {n at b : ℕ}
    → n ≡ entry_refused k journal i
    → entry_refused k journal i ≡ 0
    → at ≡ entry_at k journal i
    → b ≡ register_bytes k (numbered (get_or journal at 0)).kind
    → ◌≡◌ {A = Held} (record { number = n; target = get_or journal at 0; start = at + 1; bytes = b }) (entry_answer k journal i)
entry_told_lem k journal i number done place bytes = rw (number, done, bytes, place)
