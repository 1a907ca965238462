-- `count_each` meets its contract: each word adds one where its answer is counted.
-- Assumes nothing.
use Rattle.std.proofs.Common.{◌≡◌, ℕ, ◌+◌, ◌*◌, Bool, true, false, cond, Result, refl, sym, ap, ◌∙◌, arith}
use mathlib.Core.Path.{ap₂}
use mir.Val.{bool_byte}
use lib.Dec.{eqb}
use Rattle.machine.specs.declared.refusal.Refusal.{Refusal}
use Rattle.machine.specs.Refusal.{answered}
use Rattle.words.specs.Decode.{decoded, decoding}
use Rattle.words.specs.declared.Fields.{Fields}
use Rattle.words.proofs.Answers.{decoding_number}
use Rattle.count_words.specs.Tally.{block_words, tally}
use Rattle.count_words.proofs.Tallies.{tally_next, tally_most}
use Rattle.count_words.proofs.count_each.Goals as goal

pub loop-low-init : goal.loop-low-init
unfolding tally
loop-low-init c = refl

-- a test made a number
as_number : (t : Bool) → bool_byte t ≡ cond t 1 0
as_number true = refl
as_number false = refl

-- the new count is that of one word more
next : (first low number counted count one : ℕ) (d : Result Fields Refusal)
    → count ≡ tally counted first low → d ≡ decoding (decoded (first + low)) → number ≡ answered d → one ≡ bool_byte (eqb number counted)
    → count + one ≡ tally counted first (low + 1)
next first low number counted count one d before of is added =
    ap₂ (λ (x y : ℕ). x + y) before
    (added ∙ as_number (eqb number counted) ∙ ap (λ (n : ℕ). cond (eqb n counted) 1 0) (is ∙ ap answered of ∙ decoding_number (decoded (first + low))))
    ∙ sym (tally_next counted first low)

pub overflow_add-count : goal.overflow_add-count
overflow_add-count c =
    let first = c.args.upper * block_words in
    let low = c.loop-low.low in
    omega (
      arith,
      next first low _ c.args.counted _ _ _ c.loop-low.invariant c.decode.ensures c.answered-number.ensures c.from-count.ensures,
      tally_most c.args.counted first (low + 1),
    )

pub loop-low-preserved : goal.loop-low-preserved
loop-low-preserved c =
    next (c.args.upper * block_words) c.loop-low.low _ c.args.counted _ _ _
    c.loop-low.invariant c.decode.ensures c.answered-number.ensures c.from-count.ensures
