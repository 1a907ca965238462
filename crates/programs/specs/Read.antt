-- A reader of a program, and what it answers.
use Rattle.std.specs.Prelude.{Result, Ok, Err, ℕ, zero, suc, List}
use Rattle.std.specs.Borrow.{Bor}
use Rattle.machine.specs.declared.refusal.Refusal.{Refusal}
use Rattle.machine.specs.Refusal.{DONE, code}
use Rattle.programs.specs.declared.reader.Reader.{Reader}
use Rattle.programs.specs.declared.reader.Taken.{Taken}
use Rattle.programs.specs.Word.{Next, next_word}

-- the reader of a lent program at a place
abbrev pub reader_at : Bor (List ℕ) → ℕ → Reader
reader_at program at = record { program = program; at = at }

-- what a reader answers: the number, the word, which is 0 with a refusal, and the reader moved on, or with a refusal unmoved
pub record Read : Type 0 where
  pub number : ℕ
  pub word : ℕ
  pub reader : Reader

-- it, of a reader's outcome
abbrev pub read_in : Reader → Result Taken Refusal → Read
read_in r (Ok t) = record { number = DONE; word = t.word; reader = t.reader }
read_in r (Err e) = record { number = code e; word = 0; reader = r }

-- an answer, told by the reader of a lent program: the same program at the place that comes next
abbrev pub told_by : Bor (List ℕ) → Next → Read
told_by program n = record { number = n.number; word = n.word; reader = reader_at program n.at }

-- what a reader answers
abbrev pub read_next : Reader → Read
read_next r = told_by r.program (next_word r.program.now r.at)

-- the reader after so many answers
abbrev pub walked : ℕ → Reader → Reader
walked zero r = r
walked (suc n) r = (read_next (walked n r)).reader
