-- `back` meets its contract: with a refusal all is as it stood; past it the last entry is taken off.
-- Assumes nothing.
use Rattle.std.proofs.Common.{ℕ, List, ◌≡◌, sym, ap, ◌∙◌, rules}
use mathlib.Core.Path.{ap₂}
use Rattle.machine.specs.Refusal.{answered}
use Rattle.machine.proofs.Codes.{passed_on, code_not_done}
use Rattle.registers.specs.State.{State, state}
use Rattle.appends.specs.Needs.{TakenBack}
use Rattle.journal.specs.Left.{Buffers, buffers_of, left_with}
use Rattle.journal.specs.Calls.{back_refused}
use Rattle.journal.proofs.Accepted.{returning, can_take_back}
use Rattle.steps.specs.Calls.{backed}
use Rattle.steps.proofs.Accepted.{back_stood, back_taken}
use Rattle.steps.proofs.back.Goals as goal

-- the last entry taken off is what an accepted step back leaves
taken_off : (k : ℕ) (b : Buffers) (files : State) (after : List ℕ) → back_refused k b ≡ 0 → TakenBack k b.files b.journal files after
    → left_with 0 (buffers_of files after) ≡ backed k b
taken_off k b files after e t =
    ap₂ (λ (s : State) (entries : List ℕ). left_with 0 (buffers_of s entries)) t.files t.bytes ∙ back_taken k b e

pub returns-in_err-k : goal.returns-in_err-k
returns-in_err-k c =
    let a = c.args in
    let met = ap answered (passed_on c.from_residual.result _ c.from_residual.ensures.1) in
    record {
      leaves = back_stood a.k (buffers_of (state a.z.now a.p.now) a.journal.now) _ (met ∙ c.in_err-k.ensures.number)
          (λ e. code_not_done _ (sym met ∙ e));
      bytes = record { vectors = search rules; predicates = search rules; entries = search rules };
    }

pub take_back-requires : goal.take_back-requires
take_back-requires c =
    let a = c.args in
    let lent = buffers_of (state a.z.now a.p.now) a.journal.now in
    rw c.in_ok-k.ensures.units (can_take_back a.k lent (returning a.k lent (sym c.in_ok-k.ensures.number)))

pub returns : goal.returns
returns c =
    let a = c.args in
    record {
      leaves = taken_off a.k (buffers_of (state a.z.now a.p.now) a.journal.now) _ _ (sym c.in_ok-k.ensures.number) (rw c.in_ok-k.ensures.units at c.take_back.ensures);
      bytes = record { vectors = search rules; predicates = search rules; entries = search rules };
    }
