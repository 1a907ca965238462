-- `carry_out` meets its contract: the entry that is appended is that of the register which the word writes, as it stood before the word.
-- Assumes nothing.
use Rattle.std.proofs.Common.{ℕ, ◌≡◌, List, sym, ◌∙◌, ap, ap₂, Bor}
use Rattle.registers.specs.declared.Kind.{Kind}
use Rattle.registers.specs.declared.Kind.TheVariants.{Vector, Predicate}
use Rattle.registers.specs.Register.{Register, file_of}
use Rattle.registers.specs.State.{State, state, contents}
use Rattle.rows.specs.Table.{family_of}
use Rattle.words.specs.declared.Fields.{Fields}
use Rattle.meaning.specs.Execute.{kind_written, target_of, executed}
use Rattle.meaning.proofs.Effects.{target_of_kind}
use Rattle.entries.specs.Layout.{Entry, pushed}
use Rattle.entries.specs.Restored.{register_entry, entry_of}
use Rattle.journal.specs.Left.{Buffers, buffers_of}
use Rattle.steps.specs.Calls.{carried_out}
use Rattle.steps.proofs.carry_out.Goals as goal

-- the entry of the register that a word writes, from the kind of that register
entry_is : (k : ℕ) (kind : Kind) (f : Fields) (s : State) → kind ≡ kind_written (family_of f.row) → register_entry k kind f.d (contents kind s) ≡ entry_of k (target_of f) s
entry_is k kind f s writes = ap (λ (r : Register). entry_of k r s) (sym (target_of_kind f kind (sym writes)))

carried : (k : ℕ) (kind : Kind) (f : Fields) (b : Buffers) (files : State) (entries : List ℕ) → kind ≡ kind_written (family_of f.row)
    → files ≡ executed f k b.files
    → entries ≡ pushed k (register_entry k kind f.d (contents kind b.files)) b.journal
    → buffers_of files entries ≡ carried_out k f b
carried k kind f b files entries writes is e = ap₂ buffers_of is (e ∙ ap (λ (entry : Entry). pushed k entry b.journal) (entry_is k kind f b.files writes))

-- the file of a kind, as it was found among those that are lent, has the bytes of that kind's file
lent_file : (kind : Kind) (z p : Bor (List ℕ)) {file : Bor (List ℕ)} → file ≡ file_of kind z p → file.now ≡ file_of kind z.now p.now
lent_file Vector z p found = ap (λ (b : Bor (List ℕ)). b.now) found
lent_file Predicate z p found = ap (λ (b : Bor (List ℕ)). b.now) found

-- What is appended is the entry of the register's own file: the file of the kind, as it was found, has the bytes of that kind's file.
-- With it all is left as the word leaves it, and its entry pushed.
pub append-requires : goal.append-requires
append-requires c = rw (lent_file c.args.kind _ _ c.file.ensures) c.requires.room

pub returns : goal.returns
returns c =
    let lent = buffers_of (state c.args.z.now c.args.p.now) c.args.journal.now in
    carried c.args.k.units c.args.kind c.args.f lent _ _ c.requires.writes c.execute.ensures
    (rw (lent_file c.args.kind _ _ c.file.ensures) at c.append.ensures)
