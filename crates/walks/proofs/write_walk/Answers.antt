-- `write_walk` meets its contract: each file's copy is the file, and the journal is fresh.
-- Assumes nothing.
use Rattle.std.proofs.Common.{ℕ, List, ◌≡◌, refl, sym, ◌∙◌, length, take}
use native.Mathlib.Nat.{zero-add}
use lib.Seq.{take-length}
use Rattle.parts.specs.Part.{laid}
use Rattle.walks.specs.Output.{walk_journal}
use Rattle.walks.proofs.Outputs.{copied_is, fresh_is}
use Rattle.walks.proofs.write_walk.Goals as goal

-- a file that is laid over the front of its room
copy_is : (file room copy : List ℕ) → copy ≡ laid file room → take (length file) copy ≡ file
copy_is file room copy e = copied_is file room copy (length file) refl (e ∙ rw (take-length file, zero-add (length file)))

pub returns : goal.returns
returns c =
    let a = c.args in
    let journal : c.fresh.new.journal ≡ walk_journal a.core.k
    = fresh_is a.core.k c.room-journal.result _ _ c.requires.files.legal (sym c.room-journal.ensures) c.fresh.ensures in
    rw (journal, copy_is a.z.now _ _ c.overwrite.ensures, copy_is a.p.now _ _ c.overwrite-2.ensures) at c.write_lines.ensures
