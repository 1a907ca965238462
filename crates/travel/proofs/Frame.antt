-- What a step and a step back leave alone, refused or not: every byte of the files outside one register, every byte of the journal outside its
-- count and one entry, and all sizes.
-- Assumes nothing.
use Prim.Native.Nat.{ℕ, zero, suc, ◌-◌}
use mathlib.Core.Path.{◌≡◌, refl}
use mathlib.Core.List.{List}
use native.Mathlib.Omega.{arith}
use lib.ListN.{length, get_or, take}
use Rattle.parts.specs.Part.{Outside}
use Rattle.registers.specs.Register.{Register, IsRegister, register_bytes, numbered}
use Rattle.registers.specs.State.{Sized, write}
use Rattle.registers.proofs.Numbers.{numbered_is}
use Rattle.registers.proofs.States.{write_sizes, write_other, write_kept}
use Rattle.meaning.specs.Execute.{target_of, effect_of}
use Rattle.meaning.proofs.Effects.{effect_target, effect_sized, target_register}
use Rattle.entries.specs.Layout.{version_of, count_at, count_bytes, entry_bytes, entry_at, held_of, last_entry}
use Rattle.entries.proofs.Versions.{greatest_register}
use Rattle.entries.proofs.Restored.{put_back_whole}
use Rattle.entries.proofs.Written.{length_pushed, pushed_kept, length_popped, popped_kept, last_named, length_last}
use Rattle.journal.specs.Left.{Core, Buffers, buffers_of}
use Rattle.steps.specs.Calls.{fields_now, stepped, backed}
use Rattle.steps.specs.Frame.{Kept}
use Rattle.steps.proofs.Accepted.{step_accepted, step_refused, back_accepted, back_refused_lem}
use Rattle.travel.proofs.Undone.{step_room}

-- nothing changes
kept_same : (k : ℕ) (r : Register) (i : ℕ) (b : Buffers) → Kept k r i b b
kept_same k r i b = record { sizes = λ kind. refl; other = λ kind h. refl; outside = λ x h. refl; journal_size = refl; entries = λ x h g. refl }

-- a register is written, and an entry with the count
kept_written : (k : ℕ) (r : Register) (i : ℕ) (b : Buffers) (bytes after : List ℕ) → Sized k b.files → IsRegister r → length bytes ≡ register_bytes k r.kind
    → length after ≡ length b.journal
    → ((x : ℕ) → Outside count_at count_bytes x → Outside (entry_at k b.journal i) (entry_bytes k) x → get_or after x 0 ≡ get_or b.journal x 0)
    → Kept k r i b (buffers_of (write k r bytes b.files) after)
kept_written k r i b bytes after sized is whole size entries =
    record {
      sizes = write_sizes k r b.files sized is bytes whole;
      other = write_other k r b.files sized is bytes whole;
      outside = write_kept k r b.files sized is bytes whole;
      journal_size = size;
      entries = entries;
    }

-- a step changes its target's bytes, the next entry and the count
pub step_frame : (c : Core) (program : List ℕ) (b : Buffers)
    → Kept c.k (target_of (fields_now program b.journal)) (held_of b.journal) b (stepped c program b).after
step_frame c program b = go (stepped c program b).number refl
  where
    go : (r : ℕ) → (stepped c program b).number ≡ r → Kept c.k (target_of (fields_now program b.journal)) (held_of b.journal) b (stepped c program b).after
    go zero e =
        let a = step_accepted c program b e in
        let f = fields_now program b.journal in
        let room = step_room c program b a in
        rw (a.left, effect_target f c.k b.files)
        (kept_written c.k (target_of f) (held_of b.journal) b (effect_of f c.k b.files).bytes _ a.start.sized
        (target_register f c.k b.files a.executes)
        (effect_sized f c.k b.files a.executes)
        (length_pushed c.k _ b.journal room)
        (pushed_kept c.k _ b.journal room))
    go (suc r) e = rw (step_refused c program b (λ z. omega (arith, e, z))) (kept_same c.k _ (held_of b.journal) b)

-- a step back changes the bytes of the register that the last entry names, that entry and the count
pub back_frame : (k : ℕ) (b : Buffers) → Kept k (numbered (last_entry k b.journal).number) (held_of b.journal - 1) b (backed k b).after
back_frame k b = go (backed k b).number refl
  where
    go : (r : ℕ) → (backed k b).number ≡ r → Kept k (numbered (last_entry k b.journal).number) (held_of b.journal - 1) b (backed k b).after
    go zero e =
        let a = back_accepted k b e in
        let s = a.start in
        let last = last_entry k b.journal in
        let r = numbered last.number in
        rw a.left
        (kept_written k r (held_of b.journal - 1) b (take (register_bytes k r.kind) last.old) _ s.sized
        (numbered_is last.number (greatest_register (version_of b.journal) _ (last_named k b.journal s.formed s.some)))
        (put_back_whole k r.kind last.old (length_last k b.journal s.formed s.some))
        (length_popped k b.journal s.formed s.some)
        (popped_kept k b.journal s.formed s.some))
    go (suc r) e = rw (back_refused_lem k b (λ z. omega (arith, e, z))) (kept_same k _ (held_of b.journal - 1) b)
