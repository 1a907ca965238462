-- `take_back` meets its contract: the last entry's bytes go back, the entry is cleared and the count lowered.
use Rattle.std.proofs.Common.{ℕ, List, ◌≡◌, ◌+◌, ◌-◌, ◌≤◌, sym, ◌∙◌, ap, length, replicate, arith}
use Rattle.parts.specs.Part.{with_part}
use Rattle.registers.specs.State.{State, state}
use Rattle.entries.specs.Layout.{entry_bytes, entry_at, held_of, entry_from, with_count}
use Rattle.entries.specs.Restored.{restored}
use Rattle.entries.specs.Needs.{EntryInside}
use Rattle.entries.proofs.Slots.{entry_inside}
use Rattle.entries.proofs.Written.{popped_is}
use Rattle.appends.specs.Needs.{TakenBack}
use Rattle.appends.proofs.take_back.Goals as goal

module _ (k held at : ℕ) (journal : List ℕ) (count : held ≡ held_of journal) (is : at ≡ entry_at k journal (held - 1)) where
  place : at ≡ entry_at k journal (held_of journal - 1)
  place = is ∙ ap (λ (n : ℕ). entry_at k journal (n - 1)) count

  -- the last entry ends within the journal
  within : EntryInside k (held_of journal - 1) journal → at + entry_bytes k ≤ length journal
  within e = omega (arith, place, entry_inside k (held_of journal - 1) journal e.headed.header e.place)

  -- the bytes put back, the entry cleared and the count lowered
  taken_back : (bytes : ℕ) (s after : State) (cleared left : List ℕ) → bytes ≡ entry_bytes k → after ≡ restored k (entry_from k at journal) s
      → cleared ≡ with_part at bytes (replicate bytes 0) journal
      → left ≡ with_count (held - 1) cleared
      → TakenBack k s journal after left
  taken_back bytes s after cleared left width put zeros lowered =
      record { files = put ∙ rw place; bytes = lowered ∙ rw (zeros, place, width, count) (sym (popped_is k journal)) }

pub put_back-requires : goal.put_back-requires
put_back-requires c =
    let a = c.args in
    record {
      sized = c.requires.sized;
      inside = within a.k.units _ _ a.journal.now c.held_of-i.ensures c.entry_at-at.ensures c.requires.last;
      register = rw (place a.k.units _ _ a.journal.now c.held_of-i.ensures c.entry_at-at.ensures) c.requires.register;
    }

pub clear_part-requires : goal.clear_part-requires
clear_part-requires c =
    let inside = within c.args.k.units _ _ c.args.journal.now c.held_of-i.ensures c.entry_at-at.ensures c.requires.last in
    omega (arith, inside, c.entry_bytes.ensures)

pub returns : goal.returns
returns c =
    let a = c.args in
    taken_back a.k.units _ _ a.journal.now c.held_of-i.ensures c.entry_at-at.ensures _ (state a.z.now a.p.now) _ _ _ c.entry_bytes.ensures c.put_back.ensures
    c.clear_part.ensures
    c.put_count.ensures
