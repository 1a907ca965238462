-- Demand 2 by the theorems on a step's own contract and by both round trips of texts.
-- Assumes nothing.
use Prim.Native.Nat.{ℕ, ◌<◌}
use Rattle.demands.proofs.Made.{step_makes}
use mathlib.Core.Path.{◌≡◌, refl, sym, ◌∙◌, ap, subst}
use mathlib.Core.Bool.{Bool, true, false}
use mathlib.Core.Logic.{◌⊎◌, inl, inr}
use mathlib.Core.List.{List}
use lib.Dec.{ltb}
use lib.ListN.{length, take}
use borrow.Author.Tests.{ltb-true, ltb-false}
use Rattle.machine.specs.Refusal.{DONE, OUT}
use Rattle.machine.specs.Refusal.{Answer}
use Rattle.facts.specs.declared.Facts.{Facts}
use Rattle.names.specs.Named.{least_out, Named}
use Rattle.assembles.specs.Assembled.{Assembled}
use Rattle.assembles.proofs.Theorems.{text_then_word, word_then_text}
use Rattle.meaning.specs.Execute.{target_of}
use Rattle.meaning.proofs.Effects.{target_is}
use Rattle.entries.specs.Layout.{held_of}
use Rattle.journal.specs.Left.{Core, Buffers}
use Rattle.journal.proofs.Left.{number_left, buffers_left}
use Rattle.steps.specs.Calls.{fields_now, Stepped}
use Rattle.steps.specs.Frame.{Kept}
use Rattle.steps.proofs.Accepted.{step_accepted}
use Rattle.travel.proofs.Frame.{step_frame}
use Rattle.demands.specs.Demands.{Carries, AcceptedWords, Demand2}
use Rattle.demands.proofs.Summed.{by_registers}
use Rattle.demands.proofs.Step.{left, step_leaves, step_modulo, step_exact, step_matters}

-- what a step that was done has done
carries : (c : Core) (program : List ℕ) (b after : Buffers) → Stepped c program b DONE after → Carries c program (fields_now program b.journal) b after
carries c program b after made =
    let known = step_accepted c program b (sym (number_left made.leaves)) in
    record {
      inside = known.start.inside;
      accepted = known.word;
      files = left c program b DONE after made refl;
      destination = step_leaves c program b DONE after made refl;
      others = subst (λ (x : Buffers). Kept c.k (target_of (fields_now program b.journal)) (held_of b.journal) b x) (sym (buffers_left made.leaves))
          (step_frame c program b);
      target = target_is (fields_now program b.journal);
      makes = step_makes c program b after made;
      sums = by_registers (fields_now program b.journal) c.k b.files;
      lanes = step_modulo c program b DONE after made refl;
      exact = step_exact c program b DONE after made refl;
    }

accepted_words : AcceptedWords
accepted_words =
    record {
      step = carries;
      governed = λ c program b after other left made made' journal alike.
          step_matters c program b DONE after made refl other DONE left journal made' refl alike.governed alike.agree alike.old;
    }

-- an accepted text comes back, or the output is too short
text_back : (facts : Facts) (text old new : List ℕ) (r s : Answer) → Assembled text facts r → r.number ≡ DONE → Named r.value facts old new s
    → ((s.number ≡ OUT) × (length old < least_out)) ⊎ ((s.number ≡ DONE) × (take s.value new ≡ text))
text_back facts text old new r s assembled done named = go (ltb (length old) least_out) refl
  where
    go : (t : Bool) → ltb (length old) least_out ≡ t → ((s.number ≡ OUT) × (length old < least_out)) ⊎ ((s.number ≡ DONE) × (take s.value new ≡ text))
    go true e = inl (ap (λ (a : Answer). a.number) named.answered ∙ rw e, ltb-true (length old) least_out e)
    go false e = inr (word_then_text facts text old new r s assembled done (ltb-false (length old) least_out e) named)

pub demand_2 : Demand2
demand_2 =
    record {
      accepted = accepted_words;
      texts = record {
        word = λ facts word old new r s below named done assembled. text_then_word facts word old new r s below named done assembled;
        text = text_back;
      };
    }
