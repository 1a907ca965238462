-- `perform` meets its contract: where no entry may name what the word writes JOURNAL, with no room for an entry FULL, and all as it stood; else the word
-- is carried out.
-- Assumes nothing.
use Rattle.std.proofs.Common.{ℕ, ◌≡◌, sym, ◌∙◌, ap, Bool, true, false}
use Rattle.machine.specs.Refusal.{DONE, JOURNAL, FULL}
use Rattle.registers.specs.declared.Kind.{Kind}
use Rattle.registers.specs.Register.{register_from, entry_number}
use Rattle.registers.specs.State.{state}
use Rattle.rows.specs.Table.{family_of}
use Rattle.words.specs.declared.Fields.{Fields}
use Rattle.meaning.specs.Execute.{kind_written, target_of}
use Rattle.meaning.proofs.Effects.{target_of_kind}
use Rattle.entries.specs.Layout.{may_name, is_full}
use Rattle.journal.specs.Left.{Buffers, buffers_of, left_with}
use Rattle.steps.specs.Calls.{carried_out, performed, Performed}
use Rattle.steps.proofs.Accepted.{can_append_target}
use Rattle.steps.proofs.perform.Goals as goal

-- with no name or no room for its entry all is left as it stood; else the word is carried out
unnamed : (k : ℕ) (f : Fields) (b : Buffers) → may_name (entry_number (target_of f)) b.journal ≡ false → Performed k f b JOURNAL b
unfolding performed
unnamed k f b h = rw h

full : (k : ℕ) (f : Fields) (b : Buffers) → may_name (entry_number (target_of f)) b.journal ≡ true → is_full k b.journal ≡ true → Performed k f b FULL b
unfolding performed
full k f b named h = rw (named, h)

carried_out_lem : (k : ℕ) (f : Fields) (b after : Buffers) → may_name (entry_number (target_of f)) b.journal ≡ true → is_full k b.journal ≡ false
    → after ≡ carried_out k f b
    → Performed k f b DONE after
unfolding performed
carried_out_lem k f b after named room e = rw (named, room) (ap (left_with DONE) e)

-- whether an entry may name what the word writes, from the kind of its row, the number of its register and what was asked of that number
named : (f : Fields) (b : Buffers) (kind : Kind) (number : ℕ) {t asked : Bool} → kind ≡ kind_written (family_of f.row)
    → number ≡ entry_number (register_from kind f.d)
    → asked ≡ may_name number b.journal → asked ≡ t
    → may_name (entry_number (target_of f)) b.journal ≡ t
named f b kind number is e answered so =
    ap (λ (n : ℕ). may_name n b.journal) (sym (e ∙ ap entry_number (sym (target_of_kind f kind (sym is))))) ∙ sym answered ∙ so

pub returns-then-not-may_name : goal.returns-then-not-may_name
returns-then-not-may_name c =
    let a = c.args in
    let lent = buffers_of (state a.z.now a.p.now) a.journal.now in
    unnamed a.k.units a.f lent (named a.f lent _ _ c.kind_written-kind.ensures c.entry_number.ensures c.may_name.ensures c.if-not-may_name.true)

pub returns-then-is_full : goal.returns-then-is_full
returns-then-is_full c =
    let a = c.args in
    let lent = buffers_of (state a.z.now a.p.now) a.journal.now in
    full a.k.units a.f lent (named a.f lent _ _ c.kind_written-kind.ensures c.entry_number.ensures c.may_name.ensures c.if-not-may_name.false)
    (sym c.is_full.ensures ∙ c.if-is_full.true)

pub carry_out-requires : goal.carry_out-requires
carry_out-requires c =
    let a = c.args in
    let writes = c.kind_written-kind.ensures in
    record {
      word = c.requires.word;
      writes = writes;
      room = rw writes (can_append_target a.k.units a.f (buffers_of (state a.z.now a.p.now) a.journal.now) c.requires (sym c.is_full.ensures ∙ c.if-is_full.false));
    }

pub returns : goal.returns
returns c =
    let a = c.args in
    let lent = buffers_of (state a.z.now a.p.now) a.journal.now in
    carried_out_lem a.k.units a.f lent _ (named a.f lent _ _ c.kind_written-kind.ensures c.entry_number.ensures c.may_name.ensures c.if-not-may_name.false)
    (sym c.is_full.ensures ∙ c.if-is_full.false) c.carry_out.ensures
