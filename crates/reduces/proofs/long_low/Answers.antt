-- The low bytes are the form's.
use Rattle.std.proofs.Common.{◌≡◌, ℕ, zero, suc, ◌+◌, ◌*◌, ◌/◌, ◌<◌, refl, ◌∙◌, ap, arith}
use Rattle.machine.specs.Size.{segment_bytes}
use Rattle.parts.specs.Number.{bytes_of}
use Rattle.registers.specs.Register.{padded}
use Rattle.lanes.specs.Integer.{residue}
use Rattle.lanes.specs.Sum.{each, element, total}
use Rattle.meaning.specs.Terms.{data_bytes}
use Rattle.reduces.proofs.long_low.Goals as goal

-- the low 8 or 16 bytes
data_bytes_lem : (q : ℕ) → q < 2 → 8 * (1 + q) ≡ data_bytes q
data_bytes_lem zero h = refl
data_bytes_lem (suc zero) h = refl
data_bytes_lem (suc (suc q)) h = absurd (omega arith)

pub returns : goal.returns
returns c =
    let a = c.args in
    c.scalar.ensures
    ∙ ap (λ (sum : ℕ). padded segment_bytes (bytes_of (2 * a.w) sum))
    (c.sum_every.ensures
    ∙ ap (λ (bytes : ℕ). residue 64 (total (each (element a.signed a.w a.n.now) 0 (bytes / a.w)))) (data_bytes_lem a.q c.requires.low))
