-- `placed_word` meets its contract: files that have their sizes pass, the place answers its own refusal, and where it is right the room decides.
-- Assumes nothing.
use Rattle.std.proofs.Common.{ℕ, List, [], ◌∷◌, ◌++◌, ◌≡◌, refl, sym, ◌∙◌, ap, arith, length}
use lib.Dec.{ltb}
use borrow.Author.Tests.{eq-eqb, lt-ltb, le-ltb}
use Rattle.machine.specs.Refusal.{OUT, out_test, refused, files_tests}
use Rattle.machine.proofs.Tests.{Checked, checked}
use Rattle.digits.specs.Digits.{width_within, decimal_width}
use Rattle.registers.specs.State.{State, Sized, state}
use Rattle.programs.specs.Word.{Next}
use Rattle.programs.specs.Word.{word_at, place_tests, word_found}
use Rattle.programs.proofs.Words.{none_found, found_as}
use Rattle.lines.specs.Line.{most_line, placed_tests}
use Rattle.lines.proofs.placed_word.Goals as goal

-- files that have their sizes
files_pass : (k : ℕ) (s : State) → Sized k s → 0 ≡ refused (files_tests k (length s.z) (length s.p))
files_pass k s sized = rw (sized.legal, eq-eqb _ _ sized.vector_size, eq-eqb _ _ sized.predicate_size)

-- where the files and the place are right the last test decides
room_decides : (k : ℕ) (s : State) (program : List ℕ) (position n files : ℕ) (next : Next)
    → files ≡ refused (files_tests k (length s.z) (length s.p)) → files ≡ 0
    → next ≡ word_found (refused (place_tests (length program) position)) (word_at program position) position → next.number ≡ 0
    → refused (placed_tests k s program position n) ≡ refused (out_test (ltb n most_line) ∷ [])
room_decides k s program position n files next files-are files-right next-is next-right =
    let room = out_test (ltb n most_line) ∷ [] in
    let asked = refused (placed_tests k s program position n) in
    let past-files : Checked files asked (refused (place_tests (length program) position ++ room))
    = checked (files_tests k (length s.z) (length s.p)) tt refl files-are in
    let past-place : Checked next.number asked (refused room)
    = checked (place_tests (length program) position) tt (past-files.passes files-right) (ap (λ (m : Next). m.number) next-is) in
    past-place.passes next-right

pub returns-then-n-lt-MOST_LINE : goal.returns-then-n-lt-MOST_LINE
unfolding width_within decimal_width
returns-then-n-lt-MOST_LINE c =
    let a = c.args in
    let s = state a.files.z.now a.files.p.now in
    let decided = room_decides a.files.k.units s a.program.now a.position a.n _ _ (files_pass _ s a.files.sized) refl c.in_ok-found.ensures refl in
    none_found OUT _ (word_at a.program.now a.position) a.position (sym (decided ∙ rw (lt-ltb _ _ c.if-n-lt-MOST_LINE.true))) (λ e. omega arith)

pub returns : goal.returns
unfolding width_within decimal_width
returns c =
    let a = c.args in
    let s = state a.files.z.now a.files.p.now in
    let decided = room_decides a.files.k.units s a.program.now a.position a.n _ _ (files_pass _ s a.files.sized) refl c.in_ok-found.ensures refl in
    found_as _ _ _ (word_at a.program.now a.position) a.position c.in_ok-found.ensures (sym (decided ∙ rw (le-ltb _ _ c.if-n-lt-MOST_LINE.false)))
