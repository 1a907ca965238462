-- `step` meets its contract: the early refusals are the call's; past them the word decides, and past the word the room for its entry.
-- Assumes nothing.
use Rattle.std.proofs.Common.{ℕ, List, ◌≡◌, refl, sym, ◌∙◌, ap, Ok, Err, arith, rules}
use Rattle.machine.specs.declared.refusal.Refusal.{Refusal}
use Rattle.machine.specs.Refusal.{code, answered}
use Rattle.machine.proofs.Codes.{passed_on, code_not_done}
use Rattle.facts.specs.declared.Facts.{Facts}
use Rattle.registers.specs.State.{state}
use Rattle.programs.specs.Word.{word_at}
use Rattle.cores.specs.Core.{decoded_on}
use Rattle.cores.proofs.Answers.{core_decodes}
use Rattle.words.specs.declared.Fields.{Fields}
use Rattle.words.specs.Decode.{Decoded, Unknown, Undefined, Word, decoding}
use Rattle.words.proofs.Answers.{decoding_tells}
use Rattle.entries.specs.Layout.{position_of}
use Rattle.journal.specs.Left.{Core, core_of, Buffers, buffers_of, BytesIn}
use Rattle.journal.specs.Calls.{start_refused}
use Rattle.journal.proofs.Accepted.{started}
use Rattle.steps.specs.Calls.{word_now, Stepped}
use Rattle.steps.proofs.Accepted.{start_refused_lem, word_decides, word_performed, step_stood, executable}
use Rattle.steps.proofs.step.Goals as goal

-- the word at the position is decoded, from the position that was found and the word that was found there
decoded_here : (facts : Facts) (program journal : List ℕ) (position word : ℕ) → position ≡ position_of journal → word ≡ word_at program position
    → decoded_on facts word ≡ decoded_on facts (word_now program journal)
decoded_here facts program journal position word at is = ap (decoded_on facts) (is ∙ ap (word_at program) at)

-- it decodes to the fields that were found
decoded_word : (facts : Facts) (program journal : List ℕ) (position word : ℕ) (f : Fields) → position ≡ position_of journal
    → word ≡ word_at program position
    → Ok f ≡ decoding (decoded_on facts word)
    → decoded_on facts (word_now program journal) ≡ Word f
decoded_word facts program journal position word f at is e =
    sym (decoding_tells (Word f) (decoded_on facts word) e ∙ decoded_here facts program journal position word at is)

-- a word that refuses, refuses the step
refusing : (c : Core) (program : List ℕ) (b : Buffers) (r : ℕ) (e : Refusal) (d : Decoded) → start_refused c.k program b ≡ 0
    → decoded_on c.facts (word_now program b.journal) ≡ d
    → Err e ≡ decoding d
    → r ≡ code e
    → BytesIn b
    → Stepped c program b r b
refusing c program b r e Unknown begun is same number bytes =
    record {
      leaves = step_stood c program b r (number ∙ ap answered same ∙ sym (word_decides c program b Unknown begun is)) (λ z. code_not_done e (sym number ∙ z));
      bytes = bytes;
    }
refusing c program b r e Undefined begun is same number bytes =
    record {
      leaves = step_stood c program b r (number ∙ ap answered same ∙ sym (word_decides c program b Undefined begun is)) (λ z. code_not_done e (sym number ∙ z));
      bytes = bytes;
    }
refusing c program b r e (Word f) begun is same number bytes = absurd (code_not_done e (ap answered same))

pub returns-in_err-k : goal.returns-in_err-k
returns-in_err-k c =
    let a = c.args in
    let met = ap answered (passed_on c.from_residual.result _ c.from_residual.ensures.1) in
    record {
      leaves = start_refused_lem (core_of a.core.k a.core.facts) a.program.now (buffers_of (state a.z.now a.p.now) a.journal.now) _
          (met ∙ c.in_err-k.ensures.number) (λ e. code_not_done _ (sym met ∙ e));
      bytes = record { vectors = search rules; predicates = search rules; entries = search rules };
    }

pub position_of-requires : goal.position_of-requires
position_of-requires c =
    let a = c.args in
    (started a.core.k a.program.now (buffers_of (state a.z.now a.p.now) a.journal.now) (sym c.in_ok-k.ensures.number)).formed.least

pub word_at-word-requires : goal.word_at-word-requires
word_at-word-requires c =
    let a = c.args in
    let inside = (started a.core.k a.program.now (buffers_of (state a.z.now a.p.now) a.journal.now) (sym c.in_ok-k.ensures.number)).inside in
    omega arith

pub returns-in_err-f : goal.returns-in_err-f
returns-in_err-f c =
    let a = c.args in
    let passed = c.from_residual-in_err-f in
    refusing (core_of a.core.k a.core.facts) a.program.now (buffers_of (state a.z.now a.p.now) a.journal.now) _ _
    (decoded_on a.core.facts (word_now a.program.now a.journal.now)) (sym c.in_ok-k.ensures.number) refl
    (c.in_err-f.ensures ∙ ap decoding (decoded_here a.core.facts a.program.now a.journal.now _ _ c.position_of.ensures c.word_at-word.ensures))
    (ap answered (passed_on passed.result _ passed.ensures.1))
    (record { vectors = search rules; predicates = search rules; entries = search rules })

pub perform-requires : goal.perform-requires
perform-requires c =
    let a = c.args in
    let lent = buffers_of (state a.z.now a.p.now) a.journal.now in
    let known = started a.core.k a.program.now lent (sym c.in_ok-k.ensures.number) in
    rw c.in_ok-k.ensures.units (record {
      word = executable a.core.k (word_now a.program.now a.journal.now) _ lent.files known.sized
          (core_decodes a.core.facts _ _
          (decoded_word a.core.facts a.program.now a.journal.now _ _ _ c.position_of.ensures c.word_at-word.ensures c.in_ok-f.ensures));
      formed = known.formed;
      few = known.few;
    })

pub returns : goal.returns
returns c =
    let a = c.args in
    record {
      leaves = rw c.in_ok-k.ensures.units at c.perform.ensures
          ∙ word_performed (core_of a.core.k a.core.facts) a.program.now (buffers_of (state a.z.now a.p.now) a.journal.now) _ (sym c.in_ok-k.ensures.number)
          (decoded_word a.core.facts a.program.now a.journal.now _ _ _ c.position_of.ensures c.word_at-word.ensures c.in_ok-f.ensures);
      bytes = record { vectors = search rules; predicates = search rules; entries = search rules };
    }
