-- What is printed of a step: how long it is, that it is nothing past the program's end and else the step's line.
-- Assumes nothing.
use mathlib.Core.Path.{◌≡◌, refl, ◌∙◌, ap}
use mathlib.Core.Bool.{true}
use mathlib.Core.List.{List, []}
use Prim.Native.Nat.{ℕ, zero, suc, ◌*◌, ◌≤◌, ◌<◌}
use native.Mathlib.Nat.{le_refl}
use native.Mathlib.Omega.{arith}
use lib.ListN.{length}
use borrow.Author.Tests.{le-ltb}
use Rattle.machine.specs.Size.{is_program}
use Rattle.machine.specs.Refusal.{DONE, unless_refused}
use Rattle.machine.specs.Refusal.{Answer}
use Rattle.machine.proofs.Checks.{legal_least, legal_most}
use Rattle.machine.proofs.Tests.{unless_refused_lem}
use Rattle.facts.specs.declared.Facts.{Facts}
use Rattle.registers.specs.State.{State, Sized}
use Rattle.words.specs.Decode.{number_of}
use Rattle.cores.specs.Core.{decoded_on}
use Rattle.programs.specs.Word.{word_at, words_of}
use Rattle.digits.specs.Digits.{width_within, decimal_width}
use Rattle.digits.specs.Put.{Put}
use Rattle.entries.specs.Layout.{entry_bytes}
use Rattle.journal.specs.Left.{Core}
use Rattle.lines.specs.Line.{most_line, step_line, line_refused, LineWritten}
use Rattle.lines.proofs.Lines.{written_put}
use Rattle.lines.proofs.Longest.{done_most, step_most}
use Rattle.lines.proofs.Placed.{placed_right, line_ready, refused_passes, word_decides}
use Rattle.walks.specs.Output.{printed, line_rate}

-- room enough for a line is as good as more
line_room : (k : ℕ) (facts : Facts) (s : State) (program : List ℕ) (position number n : ℕ) → most_line ≤ n
    → line_refused k facts s program position number n ≡ line_refused k facts s program position number most_line
unfolding line_refused
line_room k facts s program position number n h = rw (le-ltb _ _ h, le-ltb _ _ (le_refl most_line))

module _ (c : Core) (s : State) (program : List ℕ) (position : ℕ) where
  -- no longer than the longest line
  pub printed_most : (number : ℕ) → length (printed c s program position number) ≤ most_line
  unfolding printed
  printed_most number = go (line_refused c.k c.facts s program position number most_line) refl
    where
      go : (n : ℕ) → line_refused c.k c.facts s program position number most_line ≡ n → length (unless_refused n (step_line c.k s program position number) []) ≤ most_line
      go zero e =
          let r = line_ready c.k s program position most_line c.facts number e in
          step_most position (omega (arith, r.inside)) c.k s program number (legal_most c.k r.files.legal)
      go (suc n) e = omega arith

  -- and of an accepted step so many bytes for each of its entry's
  pub printed_done : length (printed c s program position DONE) ≤ line_rate * entry_bytes c.k
  unfolding printed width_within decimal_width
  printed_done = go (line_refused c.k c.facts s program position DONE most_line) refl
    where
      go : (n : ℕ) → line_refused c.k c.facts s program position DONE most_line ≡ n → length (unless_refused n (step_line c.k s program position DONE) []) ≤ line_rate * entry_bytes c.k
      go zero e =
          let r = line_ready c.k s program position most_line c.facts DONE e in
          omega (arith, done_most position (omega (arith, r.inside)) c.k s program, legal_least c.k r.files.legal)
      go (suc n) e = omega arith

  -- at the program's end nothing is printed
  pub end_silent : (number : ℕ) → words_of (length program) ≤ position → printed c s program position number ≡ []
  unfolding printed
  end_silent number h =
      unless_refused_lem (line_refused c.k c.facts s program position number most_line) (step_line c.k s program position number) []
      (λ e. omega (arith, (line_ready c.k s program position most_line c.facts number e).below))

  -- before it a step's line is printed, whether the step was refused or had an accepted word
  module _ (files : Sized c.k s) (whole : is_program (length program) ≡ true) (below : position < words_of (length program)) where
    line_printed : (number : ℕ) → line_refused c.k c.facts s program position number most_line ≡ DONE → printed c s program position number ≡ step_line c.k s program position number
    unfolding printed
    line_printed number e = ap (λ (n : ℕ). unless_refused n (step_line c.k s program position number) []) e

    pub refused_printed : (number : ℕ) → (number ≡ DONE → ⊥) → printed c s program position number ≡ step_line c.k s program position number
    refused_printed number h =
        line_printed number
        (refused_passes c.k s program position most_line c.facts number (placed_right c.k s program position most_line files whole below (le_refl most_line)) h)

    pub done_printed : number_of (decoded_on c.facts (word_at program position)) ≡ DONE → printed c s program position DONE ≡ step_line c.k s program position DONE
    done_printed accepted =
        line_printed DONE
        (word_decides c.k s program position most_line c.facts DONE (placed_right c.k s program position most_line files whole below (le_refl most_line)) refl
        (word_at program position) (decoded_on c.facts (word_at program position)) refl refl
        ∙ accepted)

-- a turn writes what is printed
pub turn_put : (c : Core) (s : State) (program : List ℕ) (position number : ℕ) (old new : List ℕ) (r : Answer) → most_line ≤ length old
    → LineWritten c.k c.facts s program position number old new r → Put old 0 (printed c s program position number) new r.value
unfolding printed
turn_put c s program position number old new r h w =
    written_put (line_refused c.k c.facts s program position number most_line) (step_line c.k s program position number) old new r
    (rw (line_room c.k c.facts s program position number (length old) h) at w)
    (omega (arith, printed_most c s program position number))
