-- The number that a word is answered with: UNKNOWN exactly where no row matches, UNDEFINED exactly where a row matches and its size is not
-- allowed, DONE exactly where it is. Each public call's contract allows one result.
-- Assumes nothing.
use Rattle.std.specs.Prelude.{Result, Ok, Err}
use mathlib.Core.Path.{◌≡◌, refl, sym, ◌∙◌, ap}
use mathlib.Core.Bool.{Bool, true, false, cond}
use mathlib.Core.Logic.{◌↔◌}
use Prim.Native.Nat.{ℕ, ◌≤◌, ◌<◌}
use native.Mathlib.Omega.{arith}
use lib.Dec.{eqb, ltb}
use borrow.Author.Tests.{ltb-true, ltb-false}
use Rattle.machine.specs.declared.refusal.Refusal.{Refusal}
use Rattle.machine.specs.Refusal.{DONE, UNKNOWN, UNDEFINED, code, answered}
use Rattle.machine.proofs.Tests.{one_result}
use Rattle.rows.specs.Table.{rows, row_at, row_of, form_of, matches}
use Rattle.words.specs.Sizes.{allows}
use Rattle.words.specs.Field.{Counted}
use Rattle.words.specs.Decode.{decoded, decoding, judged, fields_at, number_of, pick_decoded, RowWith, Unknown, Undefined, Word}
use Rattle.words.specs.declared.Fields.{Fields}
use Rattle.words.specs.Decode.{Decoded}
use Rattle.rows.proofs.Rows.{row_matches, row_no_later}
use Rattle.rows.proofs.OneRow.{row_found}
use Rattle.words.proofs.Decoding.{decoded_unknown, decoded_judged}

-- what the paper decodes a word to is one thing
pub decoded_determined : (word : ℕ) (r s : Decoded) → r ≡ decoded word → s ≡ decoded word → r ≡ s
decoded_determined word = one_result (decoded word)

-- the number of what was decoded is one number
pub number_of_determined : (d : Decoded) (r s : ℕ) → r ≡ number_of d → s ≡ number_of d → r ≡ s
number_of_determined d = one_result (number_of d)

-- two results that the contract of a public call allows are the same
pub decode_determined : (word : ℕ) (r s : Result Fields Refusal) → r ≡ decoding (decoded word) → s ≡ decoding (decoded word) → r ≡ s
decode_determined word = one_result (decoding (decoded word))

-- what decoding comes to has the number of what it is of, and is of nothing else
pub decoding_number : (d : Decoded) → answered (decoding d) ≡ number_of d
decoding_number Unknown = refl
decoding_number Undefined = refl
decoding_number (Word f) = refl

pub decoding_tells : (d e : Decoded) → decoding d ≡ decoding e → d ≡ e
decoding_tells d e same = sym (back d) ∙ ap of same ∙ back e
  where
    of : Result Fields Refusal → Decoded
    of (Ok f) = Word f
    of (Err r) = pick_decoded (eqb (code r) UNKNOWN) Unknown Undefined

    back : (d : Decoded) → of (decoding d) ≡ d
    back Unknown = refl
    back Undefined = refl
    back (Word f) = refl

pub digits_determined : (n r s : ℕ) → Counted n r → Counted n s → r ≡ s
digits_determined n r s a b = one_result n r s a.is b.is

-- the number of fields, by whether their size is allowed
judged_number : (f : Fields) (t : Bool) → allows (form_of f.row) f.q f.size ≡ t → number_of (judged f) ≡ cond t DONE UNDEFINED
judged_number f true e = rw e
judged_number f false e = rw e

-- the number of a word of a row
pub number_known : (word : ℕ) (t : Bool) → RowWith word t → number_of (decoded word) ≡ cond t DONE UNDEFINED
number_known word t r =
    let found = row_found r.row word r.known r.hit in
    ap number_of
    (decoded_judged word (rw found r.known) ∙ ap (λ (i : ℕ). judged (fields_at i word)) found)
    ∙ judged_number (fields_at r.row word) t r.sized

-- the number of a word of no row
pub number_unknown : (word : ℕ) → ((i : ℕ) → i < rows → matches (row_at i) word ≡ false) → number_of (decoded word) ≡ UNKNOWN
number_unknown word none = go (ltb (row_of word) rows) refl
  where
    go : (t : Bool) → ltb (row_of word) rows ≡ t → number_of (decoded word) ≡ UNKNOWN
    go true e =
        let h = ltb-true _ _ e in
        let no = none (row_of word) h in
        cc (row_matches word h)
    go false e = ap number_of (decoded_unknown word (ltb-false _ _ e))

-- a word is of a row, or of none
pub data Kind (word : ℕ) : Type 0 where
  of_row : (t : Bool) → RowWith word t → Kind word
  of_none : ((i : ℕ) → i < rows → matches (row_at i) word ≡ false) → Kind word

missed : (word i : ℕ) (t : Bool) → rows ≤ row_of word → i < rows → matches (row_at i) word ≡ t → t ≡ false
missed word i true past h e = absurd (omega (arith, row_no_later word i h e))
missed word i false past h e = refl

pub kind : (word : ℕ) → Kind word
kind word = go (ltb (row_of word) rows) refl
  where
    go : (t : Bool) → ltb (row_of word) rows ≡ t → Kind word
    go true e =
        let h = ltb-true _ _ e in
        of_row _ (record { row = row_of word; known = h; hit = row_matches word h; sized = refl })
    go false e = of_none (λ i h. missed word i _ (ltb-false _ _ e) h refl)

pub unknown_exactly : (word : ℕ) → number_of (decoded word) ≡ UNKNOWN ↔ ((i : ℕ) → i < rows → matches (row_at i) word ≡ false)
unknown_exactly word = (go (kind word), number_unknown word)
  where
    go : Kind word → number_of (decoded word) ≡ UNKNOWN → (i : ℕ) → i < rows → matches (row_at i) word ≡ false
    go (of_row true r) e = absurd (omega (arith, number_known word true r))
    go (of_row false r) e = absurd (omega (arith, number_known word false r))
    go (of_none none) e = none

-- a row matches, with its size allowed or not
sized_exactly : (word : ℕ) (t : Bool) → number_of (decoded word) ≡ cond t DONE UNDEFINED ↔ RowWith word t
sized_exactly word t = (go t (kind word), number_known word t)
  where
    go : (t : Bool) → Kind word → number_of (decoded word) ≡ cond t DONE UNDEFINED → RowWith word t
    go true (of_row true r) e = r
    go true (of_row false r) e = absurd (omega (arith, number_known word false r))
    go true (of_none none) e = absurd (omega (arith, number_unknown word none))
    go false (of_row true r) e = absurd (omega (arith, number_known word true r))
    go false (of_row false r) e = r
    go false (of_none none) e = absurd (omega (arith, number_unknown word none))

pub undefined_exactly : (word : ℕ) → number_of (decoded word) ≡ UNDEFINED ↔ RowWith word false
undefined_exactly word = sized_exactly word false

pub done_exactly : (word : ℕ) → number_of (decoded word) ≡ DONE ↔ RowWith word true
done_exactly word = sized_exactly word true
