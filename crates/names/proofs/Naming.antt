-- The answer of naming in each of its cases, exactly when each is given, and that its contract allows one result.
-- Assumes nothing.
use Rattle.std.specs.Prelude.{Result}
use mathlib.Core.Path.{◌≡◌, refl, sym, ◌∙◌, ap}
use mathlib.Core.Logic.{◌↔◌}
use mathlib.Core.Bool.{Bool, true, false}
use mathlib.Core.List.{List}
use Prim.Native.Nat.{ℕ, zero, suc, ◌≤◌, ◌<◌}
use native.Mathlib.Nat.{zero-add}
use native.Mathlib.Omega.{arith}
use lib.Dec.{ltb}
use lib.ListN.{length, take}
use lib.Seq.{sets-eq, take_at}
use borrow.Author.Tests.{lt-ltb, le-ltb, ltb-true, ltb-false}
use Rattle.machine.specs.Refusal.{DONE, OUT, in_order, refused, First, answer}
use Rattle.machine.specs.Refusal.{Answer, answer_of}
use Rattle.machine.specs.declared.refusal.Refusal.{Refusal}
use Rattle.machine.proofs.Codes.{answer_tells}
use Rattle.machine.proofs.Tests.{first_exactly}
use Rattle.parts.specs.Part.{laid}
use Rattle.facts.specs.declared.Facts.{Facts}
use Rattle.words.specs.Decode.{number_of, word_tests}
use Rattle.words.specs.declared.Fields.{Fields}
use Rattle.words.specs.Decode.{Decoded}
use Rattle.words.specs.Decode.{Unknown, Undefined, Word}
use Rattle.cores.specs.Core.{decoded_on}
use Rattle.cores.proofs.Answers.{core_decodes}
use Rattle.digits.specs.Put.{Put}
use Rattle.names.specs.Text.{text_of}
use Rattle.names.specs.Named.{least_out, text_of_word, name_tests, name_refused, Named, most_text}
use Rattle.names.proofs.Pieces.{word_length}

-- two answers of naming a word are the same, and so two results that the contract of `text` allows
pub named_determined : (word : ℕ) (facts : Facts) (old new new' : List ℕ) (r r' : Answer)
    → Named word facts old new r → Named word facts old new' r' → (r ≡ r') × (new ≡ new')
named_determined word facts old new new' r r' a b = (a.answered ∙ sym b.answered, a.bytes ∙ sym b.bytes)

pub text_determined : (word : ℕ) (facts : Facts) (old new new' : List ℕ) (r r' : Result ℕ Refusal)
    → Named word facts old new (answer_of r) → Named word facts old new' (answer_of r') → (r ≡ r') × (new ≡ new')
text_determined word facts old new new' r r' a b =
    let (same, bytes) = named_determined word facts old new new' (answer_of r) (answer_of r') a b in (answer_tells r r' same, bytes)

-- the tests are in the paper's order, and each refusal comes exactly where its test holds and none before it does
pub name_in_order : (n word : ℕ) (facts : Facts) → in_order (name_tests n word facts) ≡ true
name_in_order n word facts = refl

pub name_exactly : (n word : ℕ) (facts : Facts) (refusal : ℕ) → name_refused n word facts ≡ suc refusal ↔ First (name_tests n word facts) (suc refusal)
name_exactly n word facts refusal = first_exactly (name_tests n word facts) refusal

-- the number: OUT for an output that is too short, else the word's own
refusal_out : (n word : ℕ) (facts : Facts) → n < least_out → name_refused n word facts ≡ OUT
refusal_out n word facts h = rw (lt-ltb _ _ h)

number_of_lem : (n word : ℕ) (facts : Facts) → least_out ≤ n → name_refused n word facts ≡ number_of (decoded_on facts word)
number_of_lem n word facts h = rw (le-ltb _ _ h) (go (decoded_on facts word))
  where
    go : (d : Decoded) → refused (word_tests d) ≡ number_of d
    go Unknown = refl
    go Undefined = refl
    go (Word f) = refl

-- a call that is done
pub named_done : (word : ℕ) (facts : Facts) (old new : List ℕ) (f : Fields) (count : ℕ) → least_out ≤ length old → decoded_on facts word ≡ Word f
    → length (text_of f) ≤ length old → Put old 0 (text_of f) new count → Named word facts old new (record { number = DONE; value = count })
named_done word facts old new f count long e fits put =
    let done = number_of_lem _ word facts long ∙ ap number_of e in
    let reads = core_decodes facts word f e in
    let size = put.after ∙ zero-add _ in
    record {
      answered = rw (done, reads) (λ t. record { number = DONE; value = size t });
      bytes = rw (done, reads) (put.bytes ∙ sets-eq (text_of f) old 0 (omega arith));
    }

-- DONE is answered for an accepted word and an output that is long enough
pub done_accepted : (word : ℕ) (facts : Facts) (old new : List ℕ) (r : Answer) → Named word facts old new r → r.number ≡ DONE
    → (least_out ≤ length old) × (number_of (decoded_on facts word) ≡ DONE)
done_accepted word facts old new r named done = go (ltb (length old) least_out) refl
  where
    none : name_refused (length old) word facts ≡ DONE
    none = sym (ap (λ (a : Answer). a.number) named.answered) ∙ done

    go : (t : Bool) → ltb (length old) least_out ≡ t → (least_out ≤ length old) × (number_of (decoded_on facts word) ≡ DONE)
    go true e = absurd (omega (arith, none, refusal_out (length old) word facts (ltb-true (length old) least_out e)))
    go false e =
        let long = ltb-false (length old) least_out e in
        (long, sym (number_of_lem (length old) word facts long) ∙ none)

-- for an accepted word and an output that is long enough the text stands at the front
pub accepted_named : (word : ℕ) (facts : Facts) (old new : List ℕ) (r : Answer) → Named word facts old new r → least_out ≤ length old → number_of (decoded_on facts word) ≡ DONE
    → (r.number ≡ DONE) × (take r.value new ≡ text_of_word word)
accepted_named word facts old new r named long accepted =
    let done = number_of_lem (length old) word facts long ∙ accepted in
    let is : r ≡ answer DONE (length (text_of_word word)) = rw done at named.answered in
    let laid_out_lem : new ≡ laid (text_of_word word) old = rw done at named.bytes in (
      ap (λ (a : Answer). a.number) is,
      rw (laid_out_lem, is) (take_at (text_of_word word) _ (length (text_of_word word)) refl),
    )

-- the length that is answered is at most that of the longest text
answer_most : (n v : ℕ) → (answer n v).value ≤ v
answer_most zero v = omega arith
answer_most (suc n) v = omega arith

pub named_most : (word : ℕ) (facts : Facts) (old new : List ℕ) (r : Answer) → Named word facts old new r → r.value ≤ most_text
named_most word facts old new r named =
    rw named.answered (omega (arith, answer_most (name_refused (length old) word facts) (length (text_of_word word)), word_length word))
