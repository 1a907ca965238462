-- Naming is injective on accepted words; and on any core every form in range whose need it has is an accepted word's text, a word's text assembles
-- to the word, an accepted text is named as it stood, and the contract of `assemble` allows one result.
-- Assumes nothing.
use Rattle.std.specs.Prelude.{Result}
use mathlib.Core.Path.{◌≡◌, sym, ◌∙◌, ap}
use mathlib.Core.Logic.{⊎_elim, ◌↔◌}
use mathlib.Core.Bool.{true}
use mathlib.Core.List.{List}
use Prim.Native.Nat.{ℕ, ◌≤◌, ◌<◌, ◌^◌}
use lib.ListN.{length, take}
use Rattle.machine.specs.Refusal.{DONE, TEXT}
use Rattle.machine.specs.Refusal.{Answer, answer_of}
use Rattle.machine.specs.declared.refusal.Refusal.{Refusal}
use Rattle.machine.proofs.Codes.{answer_tells}
use Rattle.rows.specs.Digits.{word_digits}
use Rattle.words.specs.Decode.{decoded, number_of}
use Rattle.words.specs.Encode.{encoded, InRange}
use Rattle.words.specs.declared.Fields.{Fields}
use Rattle.words.proofs.Encoding.{decoded_in_range, encoded_decoded, encoded_below, decoded_encoded}
use Rattle.facts.specs.declared.Facts.{Facts}
use Rattle.cores.specs.Need.{has, need_of}
use Rattle.cores.proofs.Answers.{done_word, accepted_exactly}
use Rattle.names.specs.Text.{text_of}
use Rattle.names.specs.Named.{least_out, text_of_decoded, text_of_word, Named}
use Rattle.names.proofs.Naming.{done_accepted, accepted_named}
use Rattle.assembles.specs.Reading.{fields_from}
use Rattle.assembles.specs.Assembled.{ReadsAs, Assembled}
use Rattle.assembles.proofs.Back.{read_back}
use Rattle.assembles.proofs.Assembling.{accepted_on}

-- fields with one text are the same
pub fields_injective : (f g : Fields) → InRange f → InRange g → text_of f ≡ text_of g → f ≡ g
fields_injective f g r s e = sym (read_back f r) ∙ ap fields_from e ∙ read_back g s

-- two accepted words that read alike are the same
pub naming_injective : (v w : ℕ) → v < 2 ^ word_digits → w < 2 ^ word_digits → number_of (decoded v) ≡ DONE → number_of (decoded w) ≡ DONE
    → text_of_word v ≡ text_of_word w → v ≡ w
naming_injective v w hv hw av aw e =
    let (f, isv) = done_word (decoded v) av in
    let (g, isw) = done_word (decoded w) aw in
    let same =
    fields_injective f g (decoded_in_range v f isv) (decoded_in_range w g isw)
    (sym (ap text_of_decoded isv) ∙ e ∙ ap text_of_decoded isw) in
    sym (encoded_decoded v f hv isv) ∙ ap encoded same ∙ encoded_decoded w g hw isw

module _ (facts : Facts) where
  -- every form in range whose need the core has is the text of an accepted word: of the one that its fields make
  pub form_accepted : (f : Fields) → InRange f → has facts (need_of f.row) ≡ true → ReadsAs facts (encoded f) (text_of f)
  form_accepted f r needed =
      let back = decoded_encoded f r in
      record {
        below = encoded_below f r;
        accepted = ap number_of ((accepted_exactly facts (encoded f) f).1 (record { decodes = back; has_need = needed }));
        reads = ap text_of_decoded back;
      }

  -- a word that the core accepts is accepted
  on_any : (word : ℕ) (text : List ℕ) → ReadsAs facts word text → number_of (decoded word) ≡ DONE
  on_any word text reads = let (f, is) = accepted_on facts word reads.accepted in ap number_of is

  pub reads_once : (text : List ℕ) (v w : ℕ) → ReadsAs facts v text → ReadsAs facts w text → v ≡ w
  reads_once text v w a b = naming_injective v w a.below b.below (on_any v text a) (on_any w text b) (a.reads ∙ sym b.reads)

  -- a text that an accepted word reads as is answered with that word
  pub assembled_word : (text : List ℕ) (r : Answer) (word : ℕ) → Assembled text facts r → ReadsAs facts word text → (r.number ≡ DONE) × (r.value ≡ word)
  assembled_word text r word a reads =
      ⊎_elim
      (λ (done : r.number ≡ DONE). (done, reads_once text r.value word (a.done done) reads))
      (λ (none : r.number ≡ TEXT). absurd ((a.refused none).1 word reads))
      a.number

  -- DONE with a word exactly where that accepted word reads so, TEXT exactly where none does
  pub done_exactly : (text : List ℕ) (r : Answer) (word : ℕ) → Assembled text facts r → ((r.number ≡ DONE) × (r.value ≡ word)) ↔ ReadsAs facts word text
  done_exactly text r word a = (λ h. rw h.1 at (a.done h.0), assembled_word text r word a)

  pub text_exactly : (text : List ℕ) (r : Answer) → Assembled text facts r → (r.number ≡ TEXT) ↔ ((word : ℕ) → ReadsAs facts word text → ⊥)
  text_exactly text r a = (
    λ e. (a.refused e).1,
    λ none. ⊎_elim (λ (done : r.number ≡ DONE). absurd (none r.value (a.done done))) (λ e. e) a.number,
  )

  -- two answers of assembling a text are the same, and so two results that the contract of `assemble` allows
  pub assembled_determined : (text : List ℕ) (r s : Answer) → Assembled text facts r → Assembled text facts s → r ≡ s
  assembled_determined text r s a b = ⊎_elim done none b.number
    where
      done : s.number ≡ DONE → r ≡ s
      done e =
          let (number, value) = assembled_word text r s.value a (b.done e) in
          λ t. record { number = (number ∙ sym e) t; value = value t }

      none : s.number ≡ TEXT → r ≡ s
      none e =
          ⊎_elim
          (λ (d : r.number ≡ DONE). absurd ((b.refused e).1 r.value (a.done d)))
          (λ (n : r.number ≡ TEXT). λ t. record { number = (n ∙ sym e) t; value = ((a.refused n).0 ∙ sym (b.refused e).0) t })
          a.number

  pub assemble_determined : (text : List ℕ) (r s : Result ℕ Refusal) → Assembled text facts (answer_of r) → Assembled text facts (answer_of s) → r ≡ s
  assemble_determined text r s a b = answer_tells r s (assembled_determined text (answer_of r) (answer_of s) a b)

  -- a word that is named, and its text assembled, comes back
  pub text_then_word : (word : ℕ) (old new : List ℕ) (r s : Answer) → word < 2 ^ word_digits → Named word facts old new r → r.number ≡ DONE
      → Assembled (take r.value new) facts s → (s.number ≡ DONE) × (s.value ≡ word)
  text_then_word word old new r s below named done assembled =
      let (long, accepted) = done_accepted word facts old new r named done in
      let (_, text) = accepted_named word facts old new r named long accepted in
      assembled_word (take r.value new) s word assembled (record { below = below; accepted = accepted; reads = sym text })

  -- a text that is assembled, and its word named into an output that is long enough, comes back
  pub word_then_text : (text old new : List ℕ) (r s : Answer) → Assembled text facts r → r.number ≡ DONE → least_out ≤ length old
      → Named r.value facts old new s → (s.number ≡ DONE) × (take s.value new ≡ text)
  word_then_text text old new r s assembled done long named =
      let reads = assembled.done done in
      let (number, front) = accepted_named r.value facts old new s named long reads.accepted in
      (number, front ∙ reads.reads)
