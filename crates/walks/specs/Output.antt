-- What a walk prints: for a session a line for each step until one is refused, and for other bytes the number SESSION.
use Rattle.std.specs.Prelude.{Result, ℕ, zero, suc, ◌+◌, ◌*◌, ◌-◌, ◌≤◌, ◌≡◌, List, [], ◌∷◌, ◌++◌, ltb, length}
use Rattle.machine.specs.Size.{most_words, Files}
use Rattle.machine.specs.Refusal.{DONE, answered, Test, out_test, refused, unless_refused}
use Rattle.machine.specs.Refusal.{Answer}
use Rattle.machine.specs.declared.refusal.Refusal.{Refusal}
use Rattle.registers.specs.State.{State, state}
use Rattle.digits.specs.Put.{Put}
use Rattle.entries.specs.Layout.{current_version, most_journal, entry_bytes, capacity_of, held_of, fresh_journal}
use Rattle.journal.specs.Left.{Core, core_of, Buffers, buffers_of}
use Rattle.steps.specs.Calls.{stepped, Stepped}
use Rattle.session.specs.Body.{Session}
use Rattle.session.specs.Body.{vector_part, predicate_part, program_part}
use Rattle.session.specs.Layout.{session_of}
use Rattle.lines.specs.Line.{most_line, step_line, session_line, line_refused, Written}

-- what is printed of a step at a position, which answered this number and left this state: its line, and past the program's end nothing
unfoldable pub printed : Core → State → List ℕ → ℕ → ℕ → List ℕ
printed c s program position number =
    unless_refused (line_refused c.k c.facts s program position number most_line) (step_line c.k s program position number) []

-- the lines of a walk from a position on, of n steps at most: that of the next step, and after an accepted one those of the rest
unfoldable pub lines_from : ℕ → Core → List ℕ → ℕ → Buffers → List ℕ
lines_from zero c program position b = []
lines_from (suc n) c program position b =
    let l = stepped c program b in
    printed c l.after.files program position l.number ++ unless_refused l.number (lines_from n c program (position + 1) l.after) []

-- the version of a walk's journal, whose entries name what any word writes
abbrev pub walk_version : ℕ
walk_version = current_version

-- the fresh journal of a walk, which has all the room that a journal may have
unfoldable pub walk_journal : ℕ → List ℕ
walk_journal k = fresh_journal walk_version k most_journal

-- the files that a session names, with a fresh journal, and the core that it is for
abbrev pub session_buffers : Session → List ℕ → Buffers
session_buffers s bytes = buffers_of (state (vector_part s bytes) (predicate_part s bytes)) (walk_journal s.k)

abbrev pub session_core : Session → Core
session_core s = core_of s.k s.facts

-- the lines of a session
abbrev pub session_lines : Session → List ℕ → List ℕ
session_lines s bytes = lines_from most_words (session_core s) (program_part s bytes) 0 (session_buffers s bytes)

-- the whole output
unfoldable pub output_of : List ℕ → List ℕ
output_of bytes = unless_refused (session_of bytes).number (session_lines (session_of bytes) bytes) session_line

-- a line has at most so many bytes for each byte of its step's entry
abbrev pub line_rate : ℕ
line_rate = 4

-- the bytes of the lines to come, at most: those of the entries that still fit, and those of the step that is refused
abbrev pub lines_most : ℕ → List ℕ → ℕ
lines_most k journal = line_rate * ((capacity_of k journal - held_of journal) * entry_bytes k) + most_line

-- the most bytes of an output
abbrev pub most_output : ℕ
most_output = line_rate * most_journal + most_line

-- the one test of an output of n bytes
abbrev pub output_tests : ℕ → List Test
output_tests n = out_test (ltb n most_output) ∷ []

-- a walk's whole output written at the front
abbrev pub OutputWritten : List ℕ → List ℕ → List ℕ → Answer → Type 0
OutputWritten bytes old new r = Written (refused (output_tests (length old))) (output_of bytes) old new r

-- what a step answered, and the place after its line
pub record Turn : Type 0 where
  pub number : ℕ
  pub at : ℕ

-- it, of a step's outcome
abbrev pub turn_in : Result Unit Refusal → ℕ → Turn
turn_in outcome at = record { number = answered outcome; at = at }

-- a step taken, and what is printed of it written at a place
pub record Turned (c : Core) (program : List ℕ) (b : Buffers) (position at : ℕ) (out : List ℕ) (r : Turn) (after : Buffers) (out-after : List ℕ) : Type 0 where
  pub stepped : Stepped c program b r.number after
  pub shown : Put out at (printed c after.files program position r.number) out-after r.at

-- files of a legal length, and room for every line of their walk
pub record Lent (k : ℕ) (z p out : List ℕ) : Type 0 where
  pub files : Files k z p
  pub room : most_output ≤ length out

-- a session that was read from some bytes, and room for every line of its walk
pub record Given (bytes : List ℕ) (s : Session) (out : List ℕ) : Type 0 where
  pub reading : s ≡ session_of bytes
  pub done : s.number ≡ DONE
  pub room : most_output ≤ length out
