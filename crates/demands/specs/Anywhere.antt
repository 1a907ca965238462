-- A step, travel and a walk's lines that ask of a core nothing: a word is what it decodes to anywhere.
use Rattle.std.specs.Prelude.{ℕ, zero, suc, ◌+◌, List, [], ◌∷◌, ◌++◌, eqb}
use Rattle.machine.specs.Refusal.{DONE, only_where, refused, unless_refused}
use Rattle.registers.specs.State.{State}
use Rattle.programs.specs.Word.{word_at}
use Rattle.words.specs.Decode.{decoded, word_tests}
use Rattle.journal.specs.Left.{Buffers, Left}
use Rattle.steps.specs.Calls.{word_now, step_by, backed}
use Rattle.travel.specs.Travel.{Trip, directed, went_on}
use Rattle.lines.specs.Line.{most_line, placed_tests, step_line}

-- what a step leaves by what its word decodes to anywhere
unfoldable pub step_anywhere : ℕ → List ℕ → Buffers → Left Buffers
step_anywhere k program b = step_by k program b (decoded (word_now program b.journal))

-- some steps, such ones forward and any back, one after the other
unfoldable pub travel_anywhere : ℕ → List ℕ → List ℕ → Trip → Trip
travel_anywhere k program [] t = t
travel_anywhere k program (direction ∷ directions) t =
    travel_anywhere k program directions (went_on direction (directed direction (backed k t.buffers) (step_anywhere k program t.buffers)) t)

-- the number that a line is answered with where its word is what it decodes to anywhere, and what a walk prints of such a step
unfoldable pub line_refused_anywhere : ℕ → State → List ℕ → ℕ → ℕ → ℕ → ℕ
line_refused_anywhere k s program position number n =
    refused (placed_tests k s program position n ++ only_where (eqb number DONE) (word_tests (decoded (word_at program position))))

unfoldable pub printed_anywhere : ℕ → State → List ℕ → ℕ → ℕ → List ℕ
printed_anywhere k s program position number =
    unless_refused (line_refused_anywhere k s program position number most_line) (step_line k s program position number) []

-- the lines of a walk by such steps from a position on, of n steps at most
unfoldable pub lines_anywhere : ℕ → ℕ → List ℕ → ℕ → Buffers → List ℕ
lines_anywhere zero k program position b = []
lines_anywhere (suc n) k program position b =
    let l = step_anywhere k program b in
    printed_anywhere k l.after.files program position l.number ++ unless_refused l.number (lines_anywhere n k program (position + 1) l.after) []
