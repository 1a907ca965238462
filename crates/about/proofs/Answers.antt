-- The answers of the call for a row: its one test in the paper's order, RANGE exactly past the last row, what is told of every other, and a contract that
-- allows one result.
-- Assumes nothing.
use Prim.Native.Nat.{ℕ, suc, ◌<◌}
use mathlib.Core.Path.{◌≡◌, refl, sym, ◌∙◌, ap}
use mathlib.Core.Bool.{true}
use mathlib.Core.Logic.{◌↔◌}
use lib.Dec.{ltb}
use borrow.Author.Tests.{lt-leb}
use Rattle.machine.specs.Refusal.{First, in_order}
use Rattle.std.specs.Prelude.{Result}
use Rattle.machine.specs.declared.refusal.Refusal.{Refusal}
use Rattle.machine.proofs.Codes.{told_tells}
use Rattle.machine.proofs.Tests.{first_exactly, one_result}
use Rattle.rows.specs.Table.{rows, form_of, family_of}
use Rattle.words.specs.Field.{source_digits, governing_digits, second_digits, pattern_digits}
use Rattle.cores.specs.Need.{need_of}
use Rattle.about.specs.declared.FoundRow.{FoundRow}
use Rattle.about.specs.About.{need_byte, reads_destination, writes_predicate, row_tests, row_refused, row_told, About, about_in, about_answer}

pub row_in_order : (row : ℕ) → in_order (row_tests row) ≡ true
row_in_order row = refl

pub row_exactly : (row n : ℕ) → row_refused row ≡ suc n ↔ First (row_tests row) (suc n)
row_exactly row n = first_exactly (row_tests row) n

-- a row that there is, is told, part by part
module _ (row : ℕ) (there : row < rows) where
  pub row_is_told : about_answer row ≡ row_told row
  row_is_told = rw (lt-leb rows row there)

  pub sign_told_lem : (about_answer row).signed ≡ (form_of row).parameters.signed
  unfolding row_told
  sign_told_lem = ap (λ (a : About). a.signed) row_is_told

  pub governing_told : (about_answer row).has_g ≡ ltb 0 (governing_digits (family_of row))
  unfolding row_told
  governing_told = ap (λ (a : About). a.has_g) row_is_told

  pub second_told : (about_answer row).has_m ≡ ltb 0 (second_digits (family_of row))
  unfolding row_told
  second_told = ap (λ (a : About). a.has_m) row_is_told

  pub reads_told : (about_answer row).reads_destination ≡ reads_destination (family_of row)
  unfolding row_told
  reads_told = ap (λ (a : About). a.reads_destination) row_is_told

  pub need_told : (about_answer row).need ≡ need_byte (need_of row)
  unfolding row_told
  need_told = ap (λ (a : About). a.need) row_is_told

  pub source_told : (about_answer row).has_n ≡ ltb 0 (source_digits (family_of row))
  unfolding row_told
  source_told = ap (λ (a : About). a.has_n) row_is_told

  pub pattern_told : (about_answer row).has_pattern ≡ ltb 0 (pattern_digits (family_of row))
  unfolding row_told
  pattern_told = ap (λ (a : About). a.has_pattern) row_is_told

  pub writes_told : (about_answer row).writes_predicate ≡ writes_predicate (family_of row)
  unfolding row_told
  writes_told = ap (λ (a : About). a.writes_predicate) row_is_told

-- two records that are told of a row are the same
pub about_answer_determined : (row : ℕ) (r s : About) → r ≡ about_answer row → s ≡ about_answer row → r ≡ s
about_answer_determined row = one_result (about_answer row)

-- two results of the call are the same
pub row_determined : (row : ℕ) (a b : Result FoundRow Refusal) → about_in a ≡ about_answer row → about_in b ≡ about_answer row → a ≡ b
row_determined row a b s t = told_tells about_in (λ o. o.number) found (λ x. refl) (λ r. refl) (λ x. refl) a b (s ∙ sym t)
  where
    -- what is told without the number
    found : About → FoundRow
    found o =
        record {
          signed = o.signed;
          has_g = o.has_g;
          has_m = o.has_m;
          has_q = o.has_q;
          reads_destination = o.reads_destination;
          need = o.need;
          n_bytes = o.n_bytes;
          m_bytes = o.m_bytes;
          d_bytes = o.d_bytes;
          has_n = o.has_n;
          has_pattern = o.has_pattern;
          writes_predicate = o.writes_predicate;
        }
