-- `encode` meets its contract: the parts are those of the definition, and none of the sums is too large.
-- Assumes nothing.
use Rattle.std.proofs.Common.{◌≡◌, ℕ, ◌+◌, ◌*◌, ◌%◌, ap, ◌∙◌, arith}
use Prim.Native.Nat.{◌^◌}
use Rattle.rows.specs.Digits.{word_digits}
use Rattle.rows.specs.Table.{row_value, line_value}
use Rattle.words.specs.Encode.{encoded}
use Rattle.words.specs.declared.Fields.{Fields}
use Rattle.assembles.specs.Reading.{limited}
use Rattle.assembles.proofs.encode.Goals as goal

-- the sum of the parts, as they are added up here
encode_sum : (f : Fields) (v n m size g q d pattern : ℕ) → v ≡ row_value f.row
    → n ≡ f.n % 32 * 2 ^ 5 → m ≡ f.m % 32 * 2 ^ 16 → size ≡ f.size % 4 * 2 ^ 22
    → g ≡ f.g % 8 * 2 ^ 10 → q ≡ f.q % 2 * 2 ^ 30 → d ≡ f.d % 32 * 2 ^ 0
    → pattern ≡ f.pattern % 32 * 2 ^ 5 → v + n + m + size + g + q + d + pattern ≡ encoded (limited f)
unfolding encoded
encode_sum f v n m size g q d pattern hv hn hm hs hg hq hd hp = omega arith

pub returns : goal.returns
returns c =
    ap (λ (w : ℕ). w % 2 ^ word_digits)
    (encode_sum c.args.f _ _ _ _ _ _ _ _
    (c.from-value.ensures ∙ ap line_value c.row_at-entry.ensures)
    c.placed-n.ensures
    c.placed-m.ensures
    c.placed-size.ensures
    c.placed-g.ensures
    c.placed-q.ensures
    c.placed-d.ensures
    c.placed-pattern.ensures)
