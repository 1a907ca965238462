-- `count_all` meets its contract: each block adds the count of its words.
-- Assumes nothing.
use Rattle.std.proofs.Common.{◌≡◌, ℕ, ◌+◌, ◌*◌, refl, sym, ◌∙◌, arith}
use mathlib.Core.Path.{ap₂}
use Rattle.count_words.specs.Tally.{block_words, tally}
use Rattle.count_words.proofs.Tallies.{tally_block, tally_most}
use Rattle.count_words.proofs.count_all.Goals as goal

pub loop-upper-init : goal.loop-upper-init
unfolding tally
loop-upper-init c = refl

-- the new count is that of one block more
next : (counted upper count more : ℕ) → count ≡ tally counted 0 (upper * block_words) → more ≡ tally counted (upper * block_words) block_words
    → count + more ≡ tally counted 0 ((upper + 1) * block_words)
next counted upper count more before added = ap₂ (λ (x y : ℕ). x + y) before added ∙ sym (tally_block counted upper)

pub overflow_add-count : goal.overflow_add-count
overflow_add-count c =
    let upper = c.loop-upper.upper in
    omega (
      arith,
      next c.args.counted upper _ _ c.loop-upper.invariant c.count_block-count.ensures,
      tally_most c.args.counted 0 ((upper + 1) * block_words),
    )

pub loop-upper-preserved : goal.loop-upper-preserved
loop-upper-preserved c = next c.args.counted c.loop-upper.upper _ _ c.loop-upper.invariant c.count_block-count.ensures
