-- What a word decodes to on a core: what it decodes to anywhere, where the core has what its row needs, and else UNDEFINED. With all five facts
-- it is what it was without them; more facts refuse nothing that fewer accept. Each public call's contract allows one result.
-- Assumes nothing.
use Prim.Native.Nat.{ℕ}
use mathlib.Core.Path.{◌≡◌, refl, sym, ◌∙◌, ap}
use mathlib.Core.Bool.{Bool, true, false}
use mathlib.Core.Logic.{◌↔◌, ◌⊎◌, inl, inr}
use native.Mathlib.Omega.{arith}
use Rattle.std.specs.Prelude.{Result}
use Rattle.machine.specs.declared.refusal.Refusal.{Refusal}
use Rattle.machine.specs.Refusal.{DONE, UNKNOWN, UNDEFINED}
use Rattle.machine.proofs.Tests.{one_result}
use Rattle.facts.specs.Facts.{all_facts, Among}
use Rattle.facts.specs.declared.Facts.{Facts}
use Rattle.words.specs.Decode.{pick_decoded, decoded, decoding, number_of, fields_of}
use Rattle.words.specs.declared.Fields.{Fields}
use Rattle.words.specs.Decode.{Decoded}
use Rattle.words.specs.Decode.{Unknown, Undefined, Word}
use Rattle.cores.specs.Need.{has, need_of}
use Rattle.cores.specs.Core.{granted, on_core, decoded_on, Granted, Lacking}
use Rattle.cores.proofs.Needs.{has_all, has_more}

-- what the paper decodes a word to on a core is one thing
pub decoded_on_determined : (facts : Facts) (word : ℕ) (r s : Decoded) → r ≡ decoded_on facts word → s ≡ decoded_on facts word → r ≡ s
decoded_on_determined facts word = one_result (decoded_on facts word)

-- two results that the contract of `decode` allows are the same
pub decode_on_determined : (facts : Facts) (word : ℕ) (r s : Result Fields Refusal)
    → r ≡ decoding (decoded_on facts word) → s ≡ decoding (decoded_on facts word) → r ≡ s
decode_on_determined facts word = one_result (decoding (decoded_on facts word))

-- fields by whether the core has what their row needs
granted_by : (facts : Facts) (f : Fields) (t : Bool) → has facts (need_of f.row) ≡ t → granted facts f ≡ pick_decoded t (Word f) Undefined
granted_by facts f t e = rw e

-- what a word decodes to on a core, from what it decodes to
pub on_core_lem : (facts : Facts) (word : ℕ) (d : Decoded) → decoded word ≡ d → decoded_on facts word ≡ on_core facts d
unfolding decoded_on
on_core_lem facts word d is = ap (on_core facts) is

-- a word is one that no core knows, one that none accepts, one that this core accepts, or one for which it lacks what is needed
pub data Verdict (facts : Facts) (word : ℕ) : Type 0 where
  unknown : decoded word ≡ Unknown → decoded_on facts word ≡ Unknown → Verdict facts word
  undefined : decoded word ≡ Undefined → decoded_on facts word ≡ Undefined → Verdict facts word
  accepted : (f : Fields) → Granted facts word f → decoded_on facts word ≡ Word f → Verdict facts word
  lacking : Lacking facts word → decoded_on facts word ≡ Undefined → Verdict facts word

pub verdict : (facts : Facts) (word : ℕ) → Verdict facts word
verdict facts word = by (decoded word) refl
  where
    judge : (f : Fields) → decoded word ≡ Word f → (t : Bool) → has facts (need_of f.row) ≡ t → Verdict facts word
    judge f is true e = accepted f (record { decodes = is; has_need = e }) (on_core_lem facts word _ is ∙ granted_by facts f true e)
    judge f is false e = lacking (record { fields = f; decodes = is; lacks = e }) (on_core_lem facts word _ is ∙ granted_by facts f false e)

    by : (d : Decoded) → decoded word ≡ d → Verdict facts word
    by Unknown is = unknown is (on_core_lem facts word _ is)
    by Undefined is = undefined is (on_core_lem facts word _ is)
    by (Word f) is = judge f is _ refl

-- accepted with these fields exactly where it decodes to them and the core has what its row needs
pub accepted_exactly : (facts : Facts) (word : ℕ) (f : Fields) → decoded_on facts word ≡ Word f ↔ Granted facts word f
accepted_exactly facts word f = (by (verdict facts word), λ g. on_core_lem facts word _ g.decodes ∙ granted_by facts f true g.has_need)
  where
    by : Verdict facts word → decoded_on facts word ≡ Word f → Granted facts word f
    by (unknown _ is) h = absurd (omega (arith, ap number_of (sym is ∙ h)))
    by (undefined _ is) h = absurd (omega (arith, ap number_of (sym is ∙ h)))
    by (accepted g all is) h = let same : g ≡ f = ap fields_of (sym is ∙ h) in rw (← same) all
    by (lacking _ is) h = absurd (omega (arith, ap number_of (sym is ∙ h)))

-- so a word that is accepted on a core is accepted with the same fields
pub core_decodes : (facts : Facts) (word : ℕ) (f : Fields) → decoded_on facts word ≡ Word f → decoded word ≡ Word f
core_decodes facts word f h = ((accepted_exactly facts word f).0 h).decodes

-- the fields of what is answered DONE
pub done_word : (d : Decoded) → number_of d ≡ DONE → (f : Fields) × (d ≡ Word f)
done_word Unknown e = absurd (omega arith)
done_word Undefined e = absurd (omega arith)
done_word (Word f) e = (f, refl)

-- UNKNOWN comes exactly where it comes on any core
pub unknown_on : (facts : Facts) (word : ℕ) → number_of (decoded_on facts word) ≡ UNKNOWN ↔ number_of (decoded word) ≡ UNKNOWN
unknown_on facts word = go (verdict facts word)
  where
    go : Verdict facts word → number_of (decoded_on facts word) ≡ UNKNOWN ↔ number_of (decoded word) ≡ UNKNOWN
    go (unknown a b) = (λ _. ap number_of a, λ _. ap number_of b)
    go (undefined a b) = (λ e. absurd (omega (arith, ap number_of b)), λ e. absurd (omega (arith, ap number_of a)))
    go (accepted f g b) = (λ e. absurd (omega (arith, ap number_of b)), λ e. absurd (omega (arith, ap number_of g.decodes)))
    go (lacking l b) = (λ e. absurd (omega (arith, ap number_of b)), λ e. absurd (omega (arith, ap number_of l.decodes)))

-- UNDEFINED exactly where it comes on any core, or where this one lacks what the word's row needs
pub undefined_on : (facts : Facts) (word : ℕ) → number_of (decoded_on facts word) ≡ UNDEFINED ↔ ((number_of (decoded word) ≡ UNDEFINED) ⊎ Lacking facts word)
undefined_on facts word = (go (verdict facts word), back)
  where
    go : Verdict facts word → number_of (decoded_on facts word) ≡ UNDEFINED → (number_of (decoded word) ≡ UNDEFINED) ⊎ Lacking facts word
    go (unknown a b) e = absurd (omega (arith, ap number_of b))
    go (undefined a b) e = inl (ap number_of a)
    go (accepted f g b) e = absurd (omega (arith, ap number_of b))
    go (lacking l b) e = inr l

    back : (number_of (decoded word) ≡ UNDEFINED) ⊎ Lacking facts word → number_of (decoded_on facts word) ≡ UNDEFINED
    back (inl e) = always (decoded word) refl e
      where
        always : (d : Decoded) → decoded word ≡ d → number_of d ≡ UNDEFINED → number_of (decoded_on facts word) ≡ UNDEFINED
        always Unknown is e = absurd (omega arith)
        always Undefined is e = ap number_of (on_core_lem facts word _ is)
        always (Word f) is e = absurd (omega arith)
    back (inr l) = ap number_of (on_core_lem facts word _ l.decodes ∙ granted_by facts l.fields false l.lacks)

-- with all five facts a word decodes to what it did before there were any
pub on_all : (word : ℕ) → decoded_on all_facts word ≡ decoded word
on_all word = go (decoded word) refl
  where
    go : (d : Decoded) → decoded word ≡ d → decoded_on all_facts word ≡ decoded word
    go Unknown is = on_core_lem all_facts word _ is ∙ sym is
    go Undefined is = on_core_lem all_facts word _ is ∙ sym is
    go (Word f) is = on_core_lem all_facts word _ is ∙ granted_by all_facts f true (has_all (need_of f.row)) ∙ sym is

-- more facts never refuse a word that fewer accept, and its fields stay
pub on_more : (fewer more : Facts) → Among fewer more → (word : ℕ) (f : Fields) → decoded_on fewer word ≡ Word f → decoded_on more word ≡ Word f
on_more fewer more all word f h =
    let g = (accepted_exactly fewer word f).0 h in
    (accepted_exactly more word f).1 (record { decodes = g.decodes; has_need = has_more fewer more all (need_of f.row) g.has_need })
