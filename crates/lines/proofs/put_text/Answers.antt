-- `put_text` meets its contract: the text in the part from the place on, which holds the longest, then the space.
-- Assumes nothing.
use Rattle.std.proofs.Common.{ℕ, List, ◌≡◌, refl, Result, Ok, Err, ◌+◌, ◌-◌, ◌≤◌, length, arith}
use native.Mathlib.Nat.{le_refl}
use borrow.Rule.Slice.PartMut.{mid_of, put_mid, mid_len}
use Rattle.std.specs.Result.{result_unwrap_or}
use Rattle.machine.specs.declared.refusal.Refusal.{Refusal}
use Rattle.machine.specs.Refusal.{answer_of}
use Rattle.facts.specs.declared.Facts.{Facts}
use Rattle.facts.specs.Facts.{all_facts}
use Rattle.digits.specs.Put.{Put}
use Rattle.digits.proofs.Puts.{put_then, put_length}
use Rattle.names.specs.Named.{least_out, text_of_word, Named}
use Rattle.names.proofs.Pieces.{word_length}
use Rattle.lines.proofs.Pieces.{put_from}
use Rattle.lines.proofs.Lines.{named_put}
use Rattle.lines.proofs.put_text.Goals as goal

-- the text that is named into the part from a place on is written at the place
named : (at word : ℕ) (facts : Facts) (out new : List ℕ) (r : Result ℕ Refusal) {count : ℕ} → at + least_out ≤ length out → facts ≡ all_facts
    → Named word facts (mid_of at (length out - at) out) new (answer_of r)
    → count ≡ result_unwrap_or r 0
    → Put out at (text_of_word word) (put_mid at (length out - at) out new) (at + count)
named at word facts out new r room all is taken =
    put_from at out (omega arith) (omega (arith, word_length word))
    (rw (← value r, ← taken) at (named_put word facts _ _ (answer_of r) all (omega (arith, mid_len at (length out) out (le_refl _))) is))
  where
    value : (r : Result ℕ Refusal) → result_unwrap_or r 0 ≡ (answer_of r).value
    value (Ok v) = refl
    value (Err e) = refl

pub put-requires : goal.put-requires
put-requires c =
    let a = c.args in
    let put = named a.at a.word _ a.out.now _ c.text.result c.requires c.all.ensures c.text.ensures c.unwrap_or-length.ensures in
    omega (arith, put.after, put_length put, word_length a.word)

pub returns : goal.returns
returns c =
    let a = c.args in
    put_then (named a.at a.word _ a.out.now _ c.text.result c.requires c.all.ensures c.text.ensures c.unwrap_or-length.ensures) c.put.ensures
