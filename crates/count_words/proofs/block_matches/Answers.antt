-- `block_matches` meets its contract: a row with this upper half matches a word of the block, and where none has it none does.
-- Assumes nothing.
use Rattle.std.proofs.Common.{refl, sym, ◌∙◌, ◌%◌, arith}
use Rattle.std.proofs.lemmas.Bool.{true≢false}
use native.Mathlib.Nat.{mod-lt}
use lib.Pow.{pow_pos}
use Rattle.rows.specs.Table.{row_value}
use Rattle.count_words.specs.Tally.{block_words}
use Rattle.count_words.proofs.Blocks.{other_half, same_half}
use Rattle.count_words.proofs.block_matches.Goals as goal

pub returns-then-upper-row : goal.returns-then-upper-row
returns-then-upper-row c =
    let i = c.loop-i.i in
    let below = c.loop-i-test.true in (
      λ e. absurd (true≢false e),
      λ none. sym (same_half c.args.upper i c.requires below (rw c.row_at-row.ensures at c.if-upper-row.true))
          ∙ none (row_value i % block_words) i (mod-lt (row_value i) (pow_pos 16)) below,
    )

pub returns : goal.returns
returns c = (λ e low i hl hi. other_half c.args.upper low i c.requires hl (c.loop-i.invariant i (omega arith)), λ none. refl)
