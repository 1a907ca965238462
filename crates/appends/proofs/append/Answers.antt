-- `append` meets its contract: the register's number and its bytes are the entry, which lies inside, and the count is raised.
use Rattle.std.proofs.Common.{ℕ, List, ◌≡◌, ◌+◌, ◌≤◌, sym, ◌∙◌, ap, ap₂, length, arith}
use Rattle.parts.specs.Part.{with_part}
use Rattle.registers.specs.Register.{register_from}
use Rattle.registers.proofs.Numbers.{number_below}
use Rattle.registers.proofs.Places.{bytes_most, length_register}
use Rattle.entries.specs.Layout.{version_of, entry_bytes, entry_at, held_of, encoded_entry, with_count, pushed}
use Rattle.entries.specs.Restored.{padded_entry}
use Rattle.entries.specs.Needs.{EntryInside}
use Rattle.entries.proofs.Versions.{header_least}
use Rattle.entries.proofs.Slots.{entry_inside}
use Rattle.entries.proofs.Written.{pushed_is}
use Rattle.appends.proofs.append.Goals as goal

module _ (k i at : ℕ) (journal : List ℕ) (held : i ≡ held_of journal) (is : at ≡ entry_at k journal i) where
  place : at ≡ entry_at k journal (held_of journal)
  place = is ∙ ap (entry_at k journal) held

  -- the entry ends within the journal
  within : EntryInside k (held_of journal) journal → at + entry_bytes k ≤ length journal
  within e = omega (arith, place, entry_inside k (held_of journal) journal e.headed.header e.place)

  -- the entry written at its place, and the count
  appended : (number : ℕ) (old entries after : List ℕ) → entries ≡ with_part at (entry_bytes k) (encoded_entry (padded_entry k number old)) journal
      → after ≡ with_count (i + 1) entries
      → after ≡ pushed k (padded_entry k number old) journal
  appended number old entries after put counted =
      counted ∙ rw (put, place, held) (sym (pushed_is k (padded_entry k number old) journal))

pub put_entry-requires : goal.put_entry-requires
put_entry-requires c =
    let a = c.args in
    record {
      legal = c.requires.register.legal;
      byte = omega (arith, c.entry_number-number.ensures, number_below (register_from a.kind a.r) c.requires.register.register);
      short = omega (
        arith,
        ap length c.register.ensures,
        length_register a.k.units a.kind a.r a.file.now c.requires.register,
        bytes_most a.k.units a.kind,
      );
      inside = within a.k.units _ _ a.journal.now c.held_of-i.ensures c.entry_at-at.ensures c.requires.entry;
    }

pub put_count-requires : goal.put_count-requires
put_count-requires c = omega (arith, header_least (version_of c.args.journal.now), c.requires.entry.headed.header)

pub returns : goal.returns
returns c =
    let a = c.args in
    appended a.k.units _ _ a.journal.now c.held_of-i.ensures c.entry_at-at.ensures c.entry_number-number.result c.register.result.now _ _ c.put_entry.ensures
    c.put_count.ensures
    ∙ ap₂ (λ (number : ℕ) (old : List ℕ). pushed a.k.units (padded_entry a.k.units number old) a.journal.now) c.entry_number-number.ensures
    c.register.ensures
