-- `text` meets its contract: the fields of an accepted word are in range, and so its text fits.
-- Assumes nothing.
use Rattle.std.proofs.Common.{◌≡◌, ℕ, Ok, sym, arith}
use Rattle.facts.specs.declared.Facts.{Facts}
use Rattle.words.specs.Decode.{Word, decoding}
use Rattle.words.specs.Encode.{InRange}
use Rattle.words.specs.declared.Fields.{Fields}
use Rattle.words.proofs.Answers.{decoding_tells}
use Rattle.words.proofs.Encoding.{decoded_in_range}
use Rattle.cores.specs.Core.{decoded_on}
use Rattle.cores.proofs.Answers.{core_decodes}
use Rattle.names.proofs.Naming.{named_done}
use Rattle.names.proofs.Pieces.{text_length}
use Rattle.names.proofs.text.Goals as goal

-- a word whose fields are found is accepted, and they are in range
module _ (facts : Facts) (word : ℕ) (f : Fields) (found : Ok f ≡ decoding (decoded_on facts word)) where
  accepted : decoded_on facts word ≡ Word f
  accepted = sym (decoding_tells (Word f) _ found)

  in_range : InRange f
  in_range = decoded_in_range word f (core_decodes facts word f accepted)

pub put_text-requires : goal.put_text-requires
put_text-requires c = (c.if-out-lt-LEAST_OUT.false, in_range _ _ _ c.in_ok-fields.ensures)

pub returns : goal.returns
returns c =
    let room = c.if-out-lt-LEAST_OUT.false in
    let fits = text_length _ (in_range _ _ _ c.in_ok-fields.ensures) in
    named_done _ _ _ _ _ _ room (accepted _ _ _ c.in_ok-fields.ensures) (omega (arith, room, fits)) c.put_text.ensures
