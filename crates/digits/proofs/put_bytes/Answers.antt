-- The bytes written over a part are the bytes set one after the other.
use Rattle.std.proofs.Common.{refl, sym, ◌∙◌}
use Rattle.std.proofs.lemmas.List.Edits.{sets-eq}
use Rattle.digits.proofs.put_bytes.Goals as goal

pub returns : goal.returns
returns c = record { bytes = c.overwrite.ensures ∙ sym (sets-eq _ _ _ c.requires); after = refl }
