-- `decode` meets its contract: what a word decodes to, as the core takes it.
-- Assumes nothing.
use Rattle.std.proofs.Common.{◌≡◌, ℕ, refl, sym, ap, ◌∙◌, Err}
use Rattle.facts.specs.declared.Facts.{Facts}
use Rattle.machine.specs.declared.refusal.Refusal.{Refusal}
use Rattle.machine.specs.Refusal.{answered}
use Rattle.machine.proofs.Codes.{passed_on, code_not_done}
use Rattle.words.specs.Decode.{Decoded, Unknown, Undefined, Word, decoding, decoded}
use Rattle.words.proofs.Answers.{decoding_tells}
use Rattle.words.proofs.Encoding.{decoded_in_range}
use Rattle.cores.specs.Core.{on_core, decoded_on}
use Rattle.cores.proofs.decode.Goals as goal

-- what a core takes, from what the word decodes to
taken : (facts : Facts) (word : ℕ) (d : Decoded) → decoding d ≡ decoding (decoded word) → on_core facts d ≡ decoded_on facts word
unfolding decoded_on
taken facts word d same = ap (on_core facts) (decoding_tells d (decoded word) same)

-- a refusal is a core's too
refused_on : (facts : Facts) (word : ℕ) (r : Refusal) (d : Decoded) → decoded word ≡ d → Err r ≡ decoding d → Err r ≡ decoding (decoded_on facts word)
refused_on facts word r Unknown is e = e ∙ ap decoding (taken facts word Unknown (ap decoding (sym is)))
refused_on facts word r Undefined is e = e ∙ ap decoding (taken facts word Undefined (ap decoding (sym is)))
refused_on facts word r (Word f) is e = absurd (code_not_done r (ap answered e))

pub returns-in_err-decode : goal.returns-in_err-decode
returns-in_err-decode c =
    passed_on c.from_residual.result _ c.from_residual.ensures.1 ∙ refused_on c.args.facts c.args.word _ (decoded c.args.word) refl c.in_err-decode.ensures

-- an accepted word is of a row
pub grant-requires : goal.grant-requires
grant-requires c = (decoded_in_range _ _ (sym (decoding_tells (Word _) _ c.in_ok-decode.ensures))).row

pub returns : goal.returns
returns c = c.grant.ensures ∙ ap decoding (taken _ _ (Word _) c.in_ok-decode.ensures)
