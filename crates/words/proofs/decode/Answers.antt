-- `decode` meets its contract: each return is at the test that decides, over the row and the fields that the callees answer.
-- Assumes nothing.
use Rattle.std.proofs.Common.{ℕ, ◌≡◌, ◌<◌, Bool, sym, ◌∙◌, ap}
use Rattle.parts.proofs.Found.{some_found, none_found}
use Rattle.rows.specs.Table.{rows, row_of, form_of}
use Rattle.rows.specs.declared.Form.{Form}
use Rattle.words.specs.Sizes.{allows}
use Rattle.words.specs.Decode.{decoded, decoding, judged, fields_at, pick_decoded, Word, Undefined}
use Rattle.words.specs.declared.Fields.{Fields}
use Rattle.words.proofs.Decoding.{decoded_unknown, decoded_judged}
use Rattle.words.proofs.decode.Goals as goal

-- past the first test the word is what its fields are judged to be
known : (word i : ℕ) (fields : Fields) → i ≡ row_of word → i < rows → fields ≡ fields_at i word → decoded word ≡ judged fields
known word i fields found there read =
    decoded_judged word (rw found at there) ∙ ap judged (ap (λ (i : ℕ). fields_at i word) (sym found) ∙ sym read)

-- the test of the size that was made is the one of `judged`
tested : (form : Form) (i word : ℕ) (fields : Fields) (answer : Bool) → form ≡ form_of i → fields ≡ fields_at i word
    → answer ≡ allows form fields.q fields.size → allows (form_of fields.row) fields.q fields.size ≡ answer
tested form i word fields answer made read told =
    ap (λ (form : Form). allows form fields.q fields.size) (ap (λ (fields : Fields). form_of fields.row) read ∙ sym made) ∙ sym told

-- so the word decodes to its fields where that test holds, and is UNDEFINED where it does not
by_size : (word i : ℕ) (fields : Fields) (t : Bool) → i ≡ row_of word → i < rows → fields ≡ fields_at i word
    → allows (form_of fields.row) fields.q fields.size ≡ t → decoded word ≡ pick_decoded t (Word fields) Undefined
by_size word i fields t found there read size = known word i fields found there read ∙ rw size

-- where no row is found the word is of none
pub returns-in_default : goal.returns-in_default
returns-in_default c = sym (ap decoding (decoded_unknown _ (none_found _ _ c.in_default.ensures)))

pub returns-then-allows_size : goal.returns-then-allows_size
returns-then-allows_size c =
    let place = some_found _ _ _ c.in-Some.ensures in
    let size = tested _ _ _ _ _ c.form_of-form.ensures c.fields_at-fields.ensures c.allows_size.ensures in
    sym (ap decoding (by_size _ _ _ _ place.0 (rw place.0 place.1) c.fields_at-fields.ensures (size ∙ c.if-allows_size.true)))

pub returns-else-allows_size : goal.returns-else-allows_size
returns-else-allows_size c =
    let place = some_found _ _ _ c.in-Some.ensures in
    let size = tested _ _ _ _ _ c.form_of-form.ensures c.fields_at-fields.ensures c.allows_size.ensures in
    sym (ap decoding (by_size _ _ _ _ place.0 (rw place.0 place.1) c.fields_at-fields.ensures (size ∙ c.if-allows_size.false)))
