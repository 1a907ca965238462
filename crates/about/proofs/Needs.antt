-- A word of a row with an allowed size is accepted exactly where the row's need is 0 or the byte of facts shares a bit with it.
-- Assumes nothing.
use Prim.Native.Nat.{ℕ, ◌^◌, ◌<◌}
use mathlib.Core.Path.{◌≡◌, refl, sym, ◌∙◌, ap}
use mathlib.Core.Logic.{◌↔◌, ◌⊎◌, inl, inr, ⊎_elim}
use mathlib.Core.Bool.{Bool, true, false, not}
use native.Mathlib.Omega.{arith}
use lib.Dec.{eqb, ltb}
use borrow.Author.Tests.{eqb-true, eqb-false, ltb-true}
use Rattle.parts.specs.Part.{both}
use Rattle.parts.proofs.Same.{both_left, both_right}
use Rattle.machine.specs.Refusal.{DONE, UNDEFINED}
use Rattle.facts.specs.Facts.{facts_of, has_bit}
use Rattle.facts.specs.declared.Facts.{Facts}
use Rattle.rows.proofs.Every.{every, at_each}
use Rattle.rows.proofs.OneRow.{row_found}
use Rattle.words.specs.Decode.{decoded, number_of, RowWith}
use Rattle.words.specs.declared.Fields.{Fields}
use Rattle.words.specs.Decode.{Word}
use Rattle.words.proofs.Decoding.{accepted}
use Rattle.words.proofs.Answers.{done_exactly}
use Rattle.cores.specs.Need.{either, has, need_of}
use Rattle.cores.specs.declared.Need.{Need}
use Rattle.cores.specs.declared.Need.TheVariants.{Nothing, SveOrSme, Sve2OrSme, Sve2p1OrSme2p1}
use Rattle.cores.specs.Core.{granted, decoded_on}
use Rattle.cores.proofs.Answers.{on_core_lem, done_word}
use Rattle.cores.proofs.Deciding.{has_sve_or_sme, has_sve2_or_sme, has_sve2p1_or_sme2p1}
use Rattle.about.specs.About.{need_byte, about_answer, Enough}
use Rattle.about.proofs.Answers.{need_told}

-- of a byte: each bit that is set is a or b
abbrev only_bits : ℕ → ℕ → ℕ → Bool
only_bits byte a b = every 8 (λ i. either (not (has_bit byte (2 ^ i))) (either (eqb i a) (eqb i b)))

-- where a test holds, one of the two that it implies does
one_of : (t p q : Bool) → either (not t) (either p q) ≡ true → t ≡ true → (p ≡ true) ⊎ (q ≡ true)
one_of true true q e s = inl refl
one_of true false q e s = inr e
one_of false p q e s = inl (cc)

-- facts are enough for a byte whose bits are a and b, and no other, exactly where they have a or b
module _ (need a b : ℕ) (few : both (ltb a 8) (ltb b 8) ≡ true) (set : both (has_bit need (2 ^ a)) (has_bit need (2 ^ b)) ≡ true) (only : only_bits need a b ≡ true)
    (some : eqb need 0 ≡ false) (byte : ℕ) where
  set_bit : (i : ℕ) → i < 8 → has_bit need (2 ^ i) ≡ true → (i ≡ a) ⊎ (i ≡ b)
  set_bit i small is =
      ⊎_elim (λ e. inl (eqb-true i a e)) (λ e. inr (eqb-true i b e))
      (one_of (has_bit need (2 ^ i)) (eqb i a) (eqb i b) (at_each 8 (λ j. either (not (has_bit need (2 ^ j))) (either (eqb j a) (eqb j b))) only i small) is)

  has_one : Enough byte need → (has_bit byte (2 ^ a) ≡ true) ⊎ (has_bit byte (2 ^ b) ≡ true)
  has_one (inl e) = absurd (eqb-false need 0 some e)
  has_one (inr s) = ⊎_elim (λ e. inl (rw e at s.first)) (λ e. inr (rw e at s.first)) (set_bit s.bit s.few s.second)

  one_enough : (has_bit byte (2 ^ a) ≡ true) ⊎ (has_bit byte (2 ^ b) ≡ true) → Enough byte need
  one_enough (inl e) = inr (record { bit = a; few = ltb-true a 8 (both_left _ _ few); first = e; second = both_left _ _ set })
  one_enough (inr e) = inr (record { bit = b; few = ltb-true b 8 (both_right (ltb a 8) _ few); first = e; second = both_right (has_bit need (2 ^ a)) _ set })

  enough_two : Enough byte need ↔ ((has_bit byte (2 ^ a) ≡ true) ⊎ (has_bit byte (2 ^ b) ≡ true))
  enough_two = (has_one, one_enough)

-- two statements that each hold exactly where a third does
both_exactly : {A B C : Type 0} → A ↔ B → C ↔ B → A ↔ C
both_exactly p q = (λ x. q.1 (p.0 x), λ x. p.1 (q.0 x))

-- a core has a need exactly where its byte is enough for the need's
pub has_enough : (byte : ℕ) (need : Need) → has (facts_of byte) need ≡ true ↔ Enough byte (need_byte need)
unfolding facts_of
has_enough byte Nothing = (λ e. inl refl, λ h. refl)
has_enough byte SveOrSme = both_exactly (has_sve_or_sme (facts_of byte)) (enough_two _ 0 3 refl refl refl refl byte)
has_enough byte Sve2OrSme = both_exactly (has_sve2_or_sme (facts_of byte)) (enough_two _ 1 3 refl refl refl refl byte)
has_enough byte Sve2p1OrSme2p1 = both_exactly (has_sve2p1_or_sme2p1 (facts_of byte)) (enough_two _ 2 4 refl refl refl refl byte)

-- the number of fields on a core, by whether it has what their row needs
granted_done : (facts : Facts) (f : Fields) → number_of (granted facts f) ≡ DONE ↔ has facts (need_of f.row) ≡ true
granted_done facts f = (λ e. by _ refl e, λ e. rw e)
  where
    by : (t : Bool) → has facts (need_of f.row) ≡ t → number_of (granted facts f) ≡ DONE → t ≡ true
    by true is e = refl
    by false is e = let undefined : number_of (granted facts f) ≡ UNDEFINED = rw is in absurd (omega arith)

-- a word of a row with an allowed size is accepted exactly where the need that is told of the row is 0 or shares a bit with the facts
pub need_decides : (byte word : ℕ) (h : RowWith word true) → number_of (decoded_on (facts_of byte) word) ≡ DONE ↔ Enough byte (about_answer h.row).need
need_decides byte word h =
    let f = (done_word (decoded word) ((done_exactly word).1 h)).0 in
    let is : decoded word ≡ Word f = (done_word (decoded word) ((done_exactly word).1 h)).1 in
    let row : f.row ≡ h.row = ap (λ (g : Fields). g.row) (accepted word f is).fields ∙ row_found h.row word h.known h.hit in
    let told : need_byte (need_of f.row) ≡ (about_answer h.row).need = ap (λ (i : ℕ). need_byte (need_of i)) row ∙ sym (need_told h.row h.known) in
    let number : number_of (decoded_on (facts_of byte) word) ≡ number_of (granted (facts_of byte) f) = ap number_of (on_core_lem (facts_of byte) word (Word f) is) in (
      λ e. rw told at ((has_enough byte (need_of f.row)).0 ((granted_done (facts_of byte) f).0 (sym number ∙ e))),
      λ e. number ∙ (granted_done (facts_of byte) f).1 ((has_enough byte (need_of f.row)).1 (rw (← told) at e)),
    )
