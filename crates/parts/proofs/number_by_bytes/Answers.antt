-- Seven bytes at most are read before a turn, so that its number fits.
use Rattle.std.proofs.Common.{ℕ, ◌+◌, ◌-◌, ◌*◌, ◌^◌, ◌<◌, ◌∙◌, ap, arith}
use Rattle.parts.proofs.Numbers.{part_small, number_before}
use Rattle.parts.proofs.number_by_bytes.Goals as goal
use Rattle.parts.proofs.number_by_bytes.Goals.{In-loop-i}

small : (c : In-loop-i) → c.loop-i.n < 2 ^ 56
small c =
    omega (arith, c.loop-i.invariant, part_small (c.args.w - c.loop-i.i) (c.args.at + c.loop-i.i) c.args.bytes.now (omega arith) (λ k. omega (arith, c.type_inv.bytes k)))

pub overflow_mul-n : goal.overflow_mul-n
overflow_mul-n c = omega (arith, small c)

pub overflow_add-n : goal.overflow_add-n
overflow_add-n c = omega (arith, small (goal.at.overflow_add-n c).In-loop-i, c.type_inv.bytes (c.args.at + (c.loop-i.i - 1)))

pub loop-i-preserved : goal.loop-i-preserved
loop-i-preserved c =
    ap (λ (n : ℕ). n * 256 + c.from.result) c.loop-i.invariant
    ∙ rw c.from.ensures (number_before c.args.bytes.now c.args.at c.loop-i.i c.args.w (omega arith) (omega arith) (omega arith))
