-- With all five facts a step, travel and a walk's lines are those that ask of a core nothing: one equation of a step, and then step by step. So
-- is all that a session of the first version prints.
-- Assumes nothing.
use Prim.Native.Nat.{ℕ, zero, suc, ◌+◌}
use mathlib.Core.Path.{◌≡◌, refl, ◌∙◌, ap, ap₂}
use mathlib.Core.Logic.{⊎_elim}
use mathlib.Core.List.{List, [], ◌∷◌, ◌++◌}
use Rattle.machine.specs.Size.{most_words}
use Rattle.machine.specs.Refusal.{DONE, SESSION, unless_refused}
use Rattle.registers.specs.State.{State}
use Rattle.facts.specs.Facts.{all_facts}
use Rattle.facts.specs.declared.Facts.{Facts}
use Rattle.words.specs.Decode.{Decoded}
use Rattle.cores.proofs.Answers.{on_all}
use Rattle.journal.specs.Left.{core_of, Buffers, Left}
use Rattle.steps.specs.Calls.{word_now, stepped, step_by, backed}
use Rattle.steps.proofs.Accepted.{step_by_lem}
use Rattle.travel.specs.Travel.{Trip, directed, went_on, onward, travelled}
use Rattle.lines.specs.Line.{most_line, step_line}
use Rattle.session.specs.Body.{program_part}
use Rattle.session.specs.Layout.{first_format, session_version, session_of, IsSession}
use Rattle.session.proofs.Reading.{session_exactly, first_has_all}
use Rattle.walks.specs.Output.{printed, lines_from, session_buffers, output_of}
use Rattle.walks.proofs.Outputs.{output_session}
use Rattle.demands.specs.Anywhere.{step_anywhere, travel_anywhere, line_refused_anywhere, printed_anywhere, lines_anywhere}
use Rattle.demands.proofs.Cores.{line_on_all}

module _ (k : ℕ) (program : List ℕ) where
  -- a step
  pub step_by_all : (b : Buffers) → stepped (core_of k all_facts) program b ≡ step_anywhere k program b
  unfolding step_anywhere
  step_by_all b = step_by_lem (core_of k all_facts) program b ∙ ap (λ (d : Decoded). step_by k program b d) (on_all (word_now program b.journal))

  -- steps forward and back
  pub travel_on_all : (directions : List ℕ) (t : Trip) → travelled (core_of k all_facts) program directions t ≡ travel_anywhere k program directions t
  unfolding travelled travel_anywhere
  travel_on_all [] t = refl
  travel_on_all (direction ∷ directions) t =
      travel_on_all directions (onward (core_of k all_facts) program direction t)
      ∙ ap (λ (l : Left Buffers). travel_anywhere k program directions (went_on direction (directed direction (backed k t.buffers) l) t)) (step_by_all t.buffers)

  -- what is printed of a step
  printed_on_all : (s : State) (position number : ℕ) → printed (core_of k all_facts) s program position number ≡ printed_anywhere k s program position number
  unfolding printed printed_anywhere line_refused_anywhere
  printed_on_all s position number =
      ap (λ (n : ℕ). unless_refused n (step_line k s program position number) []) (line_on_all k s program position number most_line)

  -- a walk's lines
  pub lines_on_all : (n position : ℕ) (b : Buffers) → lines_from n (core_of k all_facts) program position b ≡ lines_anywhere n k program position b
  unfolding lines_from lines_anywhere
  lines_on_all zero position b = refl
  lines_on_all (suc n) position b =
      let l = stepped (core_of k all_facts) program b in
      ap₂ ◌++◌
      (printed_on_all l.after.files position l.number)
      (ap (λ (rest : List ℕ). unless_refused l.number rest []) (lines_on_all n (position + 1) l.after))
      ∙ ap (λ (m : Left Buffers). printed_anywhere k m.after.files program position m.number
      ++ unless_refused m.number (lines_anywhere n k program (position + 1) m.after) []) (step_by_all b)

-- the whole output of a session of the first version
pub output_on_all : (bytes : List ℕ) → IsSession bytes → session_version bytes ≡ first_format
    → let s = session_of bytes in
    output_of bytes ≡ lines_anywhere most_words s.k (program_part s bytes) 0 (session_buffers s bytes)
output_on_all bytes is first =
    let s = session_of bytes in
    output_session bytes s refl
    (⊎_elim
    (λ (done : (s.number ≡ DONE) × IsSession bytes). done.0)
    (λ (none : (s.number ≡ SESSION) × (IsSession bytes → ⊥)). absurd (none.1 is))
    (session_exactly bytes))
    ∙ ap (λ (facts : Facts). lines_from most_words (core_of s.k facts) (program_part s bytes) 0 (session_buffers s bytes)) (first_has_all bytes is first)
    ∙ lines_on_all s.k (program_part s bytes) most_words 0 (session_buffers s bytes)
