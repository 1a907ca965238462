-- `write_panel` meets its contract: a refusal leaves the output, and DONE has the panel's rows at its front.
-- Assumes nothing.
use Rattle.std.proofs.Common.{ℕ, refl, sym, ◌∙◌, ap, List}
use Rattle.parts.specs.Part.{laid}
use Rattle.machine.proofs.Codes.{passed_on, code_not_done}
use Rattle.totals.proofs.Rows.{joined_flat}
use Rattle.totals.proofs.Written.{files_refuse, panel_laid_lem}
use Rattle.totals.proofs.write_panel.Goals as goal

pub returns-in_err-new : goal.returns-in_err-new
returns-in_err-new c =
    rw (passed_on c.from_residual.result _ c.from_residual.ensures.1)
    (files_refuse _ _ _ _ _ _ _ _ c.in_err-new.ensures.number (code_not_done _))

pub returns : goal.returns
returns c =
    let a = c.args in
    panel_laid_lem a.k a.z.now a.p.now a.source a.governing a.size a.out.now (sym c.in_ok-new.ensures.number) c.if-out-lt-PANEL_BYTES.false
    0 c.in_ok-check_panel.ensures.number c.panel-rows.result c.overwrite.new.bytes refl c.panel-rows.ensures
    (c.overwrite.ensures ∙ ap (λ (l : List ℕ). laid l a.out.now) (c.as_flattened.ensures.value ∙ sym (joined_flat c.panel-rows.result)))
