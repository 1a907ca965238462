-- The lines of a walk in the paper's words, and those of words that are all executed.
use Rattle.std.specs.Prelude.{ℕ, zero, suc, ◌+◌, cond, ◌≡◌, List, [], ◌++◌, eqb}
use Rattle.machine.specs.Refusal.{DONE, END, unless_refused}
use Rattle.facts.specs.declared.Facts.{Facts}
use Rattle.registers.specs.State.{State}
use Rattle.programs.specs.Word.{word_at}
use Rattle.words.specs.Decode.{decoded, number_of, fields_of}
use Rattle.cores.specs.Core.{decoded_on}
use Rattle.meaning.specs.Execute.{executed}
use Rattle.journal.specs.Left.{Core, Buffers}
use Rattle.steps.specs.Calls.{stepped}
use Rattle.lines.specs.Line.{step_line}

-- from a position on, n steps at most: a step's line, at END nothing, and after an accepted step the lines of the rest
unfoldable pub paper_lines : ℕ → Core → List ℕ → ℕ → Buffers → List ℕ
paper_lines zero c program position b = []
paper_lines (suc n) c program position b =
    let l = stepped c program b in
    cond (eqb l.number END) [] (step_line c.k l.after.files program position l.number)
    ++ unless_refused l.number (paper_lines n c program (position + 1) l.after) []

-- n words of a program from a position on, all accepted on a core
abbrev pub AllAccepted : ℕ → Facts → List ℕ → ℕ → Type 0
AllAccepted zero facts program position = Unit
AllAccepted (suc n) facts program position = (number_of (decoded_on facts (word_at program position)) ≡ DONE) × AllAccepted n facts program (position + 1)

-- the state after the word at a position
abbrev pub state_after : ℕ → List ℕ → ℕ → State → State
state_after k program position s = executed (fields_of (decoded (word_at program position))) k s

-- the lines of n words that are executed one after the other: each shows what its register then holds
unfoldable pub executed_lines : ℕ → ℕ → List ℕ → ℕ → State → List ℕ
executed_lines zero k program position s = []
executed_lines (suc n) k program position s =
    step_line k (state_after k program position s) program position DONE ++ executed_lines n k program (position + 1) (state_after k program position s)
