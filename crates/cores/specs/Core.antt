-- What a word decodes to on a core: UNKNOWN and UNDEFINED as ever, and UNDEFINED too where the core lacks what the row needs.
use Rattle.std.specs.Prelude.{ℕ, ◌≡◌, true, false}
use Rattle.facts.specs.declared.Facts.{Facts}
use Rattle.words.specs.Decode.{pick_decoded, decoded}
use Rattle.words.specs.declared.Fields.{Fields}
use Rattle.words.specs.Decode.{Decoded}
use Rattle.words.specs.Decode.{Unknown, Undefined, Word}
use Rattle.cores.specs.Need.{has, need_of}

-- a word with these fields, where the core has what its row needs
abbrev pub granted : Facts → Fields → Decoded
granted facts f = pick_decoded (has facts (need_of f.row)) (Word f) Undefined

-- what is decoded, as a core takes it
abbrev pub on_core : Facts → Decoded → Decoded
on_core facts Unknown = Unknown
on_core facts Undefined = Undefined
on_core facts (Word f) = granted facts f

-- what a word decodes to on a core with these facts
unfoldable pub decoded_on : Facts → ℕ → Decoded
decoded_on facts word = on_core facts (decoded word)

-- a word that decodes to fields, and a core that has what its row needs
pub record Granted (facts : Facts) (word : ℕ) (f : Fields) : Type 0 where
  pub decodes : decoded word ≡ Word f
  pub has_need : has facts (need_of f.row) ≡ true

-- a word that decodes to fields, and a core that lacks what its row needs
pub record Lacking (facts : Facts) (word : ℕ) : Type 0 where
  pub fields : Fields
  pub decodes : decoded word ≡ Word fields
  pub lacks : has facts (need_of fields.row) ≡ false
