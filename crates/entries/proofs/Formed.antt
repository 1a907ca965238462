-- What the tests on lent buffers tell: of a length and a size that they are legal, and of a journal that it is well formed, exactly where they
-- pass.
-- Assumes nothing.
use Prim.Native.Nat.{ℕ}
use mathlib.Core.Path.{◌≡◌, sym, ◌∙◌}
use mathlib.Core.Logic.{◌↔◌}
use mathlib.Core.Bool.{true}
use mathlib.Core.List.{List}
use lib.Dec.{leb}
use lib.ListN.{length, take}
use borrow.Author.Tests.{leb-true, le-leb, not-false}
use Rattle.parts.specs.Part.{same_bytes}
use Rattle.parts.proofs.Same.{both_left, both_right, same_true, same_refl}
use Rattle.machine.specs.Size.{is_legal, most_words}
use Rattle.machine.specs.Refusal.{refused, length_tests}
use Rattle.machine.proofs.Tests.{first_none}
use Rattle.entries.specs.Layout.{count_at, heading, is_version, version_of, greatest_of, is_room, is_journal, capacity_of, held_of, entries_of}
use Rattle.entries.specs.Formed.{Formed}
use Rattle.entries.specs.Tests.{room_tests, journal_tests}
use Rattle.entries.proofs.Places.{room_least, room_most, named_all, all_named}

-- a length and a size that are not refused
pub length_legal : (k r : ℕ) → r ≡ refused (length_tests k) → r ≡ 0 → is_legal k ≡ true
length_legal k r e h = not-false _ (first_none (length_tests k) tt (sym e ∙ h)).0

pub room_given : (version n r : ℕ) → r ≡ refused (room_tests version n) → r ≡ 0 → is_room version n ≡ true
room_given version n r e h = not-false _ (first_none (room_tests version n) tt (sym e ∙ h)).0

module _ (k : ℕ) (journal : List ℕ) where
  -- the tests tell all of a well-formed journal, and hold of it
  formed_of : is_room (version_of journal) (length journal) ≡ true → is_journal k journal ≡ true → Formed k journal
  unfolding entries_of
  formed_of r e =
      let v = both_right (is_version (version_of journal)) _ e in
      let h = both_right (same_bytes (take count_at journal) (heading (version_of journal) k)) _ v in
      let c = both_right (leb (held_of journal) most_words) _ h in
      record {
        least = room_least (version_of journal) (length journal) r;
        most = room_most (version_of journal) (length journal) r;
        versioned = both_left _ _ e;
        agrees = same_true _ _ (both_left _ _ v);
        few = leb-true _ _ (both_left _ _ h);
        fits = leb-true _ _ (both_left _ _ c);
        named = named_all (greatest_of journal) k journal (held_of journal) (both_right (leb (held_of journal) (capacity_of k journal)) _ c);
      }

  formed_room : Formed k journal → is_room (version_of journal) (length journal) ≡ true
  formed_room f = rw (le-leb _ _ f.least, le-leb _ _ f.most)

  formed_journal : Formed k journal → is_journal k journal ≡ true
  unfolding entries_of
  formed_journal f =
      rw (f.versioned, f.agrees, same_refl (heading (version_of journal) k), le-leb _ _ f.few, le-leb _ _ f.fits)
      (all_named (greatest_of journal) k journal (held_of journal) f.named)

  -- so they hold exactly of a well-formed journal of a legal size
  pub formed_exactly : ((is_room (version_of journal) (length journal) ≡ true) × (is_journal k journal ≡ true)) ↔ Formed k journal
  formed_exactly = (λ both. formed_of both.0 both.1, λ f. (formed_room f, formed_journal f))

  -- which is not refused
  pub formed_passes : Formed k journal → refused (journal_tests k journal) ≡ 0
  formed_passes f = rw (formed_room f, formed_journal f)

-- a journal that is not refused
pub journal_checked : (k r : ℕ) (journal : List ℕ) → r ≡ refused (journal_tests k journal) → r ≡ 0 → Formed k journal
journal_checked k r journal e h =
    let none = first_none (journal_tests k journal) tt (sym e ∙ h) in
    (formed_exactly k journal).0 (not-false _ none.0, not-false _ none.1.0)
