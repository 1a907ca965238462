-- `register_written` meets its contract: the kind is the one that the word writes, so the register of that kind is the word's.
-- Assumes nothing.
use Rattle.std.proofs.Common.{ℕ, ◌≡◌, sym, ◌∙◌, ap}
use Rattle.rows.specs.Table.{family_of}
use Rattle.words.specs.declared.Fields.{Fields}
use Rattle.registers.specs.declared.Kind.{Kind}
use Rattle.registers.specs.Register.{Register, register_from}
use Rattle.registers.specs.State.{State, state, read}
use Rattle.meaning.specs.Execute.{kind_written, target_of}
use Rattle.meaning.proofs.Effects.{target_of_kind}
use Rattle.lines.proofs.register_written.Goals as goal

-- the register of the kind that a word writes is the one that it writes
reads : (k : ℕ) (f : Fields) (s : State) (arm : Kind) → arm ≡ kind_written (family_of f.row) → read k (register_from arm f.d) s ≡ read k (target_of f) s
reads k f s arm is = ap (λ (r : Register). read k r s) (sym (target_of_kind f arm (sym is)))

pub returns : goal.returns
returns c =
    let files = c.args.files in
    c.register.ensures ∙ reads files.k.units c.args.f (state files.z.now files.p.now) _ c.kind_written.ensures
