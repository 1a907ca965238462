-- `assemble` meets its contract: the word that is read is named, and where its text is not this one no other word reads as it.
-- Assumes nothing.
use Rattle.std.proofs.Common.{◌≡◌, ℕ, List, true, false, refl, sym, ◌∙◌, ap, arith}
use Rattle.machine.proofs.Codes.{code_not_done}
use Rattle.parts.specs.Part.{same_bytes}
use Rattle.parts.proofs.Same.{same_true, same_refl}
use Rattle.assembles.specs.Reading.{word_of}
use Rattle.assembles.proofs.Assembling.{assembled_done, assembled_none, checked, unchecked, word_below}
use Rattle.assembles.proofs.assemble.Goals as goal

-- lists of which the test says that they differ are not the same
differ : (a b : List ℕ) → same_bytes a b ≡ false → a ≡ b → ⊥
differ a b e same = let both : true ≡ false = sym (same_refl b) ∙ (rw same at e) in cc

pub returns-in-Ok : goal.returns-in-Ok
returns-in-Ok c =
    assembled_done _ _ _
    (checked _ c.args.text.now _ _ _ _ (rw c.encode-word.ensures (word_below c.read_fields.result)) c.in-Ok.ensures refl
    (same_true _ _ (sym c.same_bytes.ensures ∙ c.if-same_bytes.true)))

pub returns-in_default : goal.returns-in_default
returns-in_default c =
    assembled_none _ _
    (unchecked _ c.args.text.now _ _ _ _ (c.encode-word.ensures ∙ ap word_of c.read_fields.ensures) (omega arith) c.in-Ok.ensures
    (λ n. differ _ _ (sym c.same_bytes.ensures ∙ c.if-same_bytes.false)))

pub returns-in_default-2 : goal.returns-in_default-2
returns-in_default-2 c =
    assembled_none _ _
    (unchecked _ c.args.text.now _ _ _ _ (c.encode-word.ensures ∙ ap word_of c.read_fields.ensures) (omega arith) c.in_default.ensures
    (λ n e. code_not_done _ n))
