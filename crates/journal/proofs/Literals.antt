-- Journals byte by byte, at k = 1: the mark LNJ, the version in two bytes, k, and the count in two bytes; then 17 bytes for each entry, the number of its
-- register and sixteen bytes. Of version 1 with two entries: the oldest is 0, its old bytes start at byte 9, those of the next at byte 26, and there is no
-- third. Of version 2 with the entry of P3: its number is 35, and two old bytes come before fourteen zeros. Which numbers and versions are refused.
-- Assumes nothing.
use Prim.Native.Nat.{ℕ}
use mathlib.Core.Path.{◌≡◌, refl}
use mathlib.Core.List.{List, [], ◌∷◌, ◌++◌}
use lib.ListN.{replicate}
use Rattle.registers.specs.declared.Kind.TheVariants.{Predicate}
use Rattle.registers.specs.Register.{entry_number, numbered}
use Rattle.registers.specs.State.{state}
use Rattle.entries.specs.Layout.{layout_of, slot_of, held_of, entries_of, last_entry, journal_of, fresh_journal, pushed, popped}
use Rattle.entries.specs.Restored.{register_entry, restored}
use Rattle.journal.specs.Left.{left_with}
use Rattle.journal.specs.Calls.{position_refused, entry_refused, entry_answer, no_entry, freshened}

-- Z3 and then Z31 were written, and there is room for one entry more
abbrev pub two_entries : List ℕ
two_entries = 0x4C ∷ 0x4E ∷ 0x4A ∷ 0x01 ∷ 0x00 ∷ 0x01 ∷ 0x02 ∷ 0x00 ∷ [] ++ 3 ∷ replicate 16 0xAA ++ 31 ∷ replicate 16 0xBB ++ replicate 17 0

pub oldest_literal : entry_answer 1 two_entries 0 ≡ record { number = 0; target = 3; start = 9; bytes = 16 }
unfolding entry_refused layout_of slot_of held_of entries_of numbered
oldest_literal = refl

pub newest_literal : entry_answer 1 two_entries 1 ≡ record { number = 0; target = 31; start = 26; bytes = 16 }
unfolding entry_refused layout_of slot_of held_of entries_of numbered
newest_literal = refl

pub none_literal : entry_answer 1 two_entries 2 ≡ no_entry 13
unfolding entry_refused layout_of slot_of held_of entries_of numbered
none_literal = refl

-- the predicate file before P3 is written, and the journal after it
abbrev pub predicates_before : List ℕ
predicates_before = replicate 6 0x11 ++ 0xAA ∷ 0xBB ∷ [] ++ replicate 24 0x22

abbrev pub predicate_entry : List ℕ
predicate_entry =
    0x4C ∷ 0x4E ∷ 0x4A ∷ 0x02 ∷ 0x00 ∷ 0x01 ∷ 0x01 ∷ 0x00 ∷ [] ++ 35 ∷ 0xAA ∷ 0xBB ∷ 0 ∷ 0 ∷ 0 ∷ 0 ∷ 0 ∷ 0 ∷ 0 ∷ 0 ∷ 0 ∷ 0 ∷ 0 ∷ 0 ∷ 0 ∷ 0 ∷ []

-- its entry is told without the zeros
pub predicate_literal : (pushed 1 (register_entry 1 Predicate 3 predicates_before) (fresh_journal 2 1 25) ≡ predicate_entry)
    × (entry_answer 1 predicate_entry 0 ≡ record { number = 0; target = 35; start = 9; bytes = 2 })
unfolding pushed journal_of entry_refused layout_of slot_of held_of entries_of entry_number numbered
predicate_literal = (refl, refl)

-- taken back, P3 has its two bytes again, and the journal is a fresh one
pub predicate_back_literal : (restored 1 (last_entry 1 predicate_entry) (state [] (replicate 6 0x11 ++ 0xFF ∷ 0xFF ∷ [] ++ replicate 24 0x22)) ≡ state [] predicates_before)
    × (popped 1 predicate_entry ≡ 0x4C ∷ 0x4E ∷ 0x4A ∷ 0x02 ∷ 0x00 ∷ 0x01 ∷ 0x00 ∷ 0x00 ∷ [] ++ replicate 17 0)
unfolding popped layout_of slot_of held_of numbered
predicate_back_literal = (refl, refl)

-- what stands after a predicate's old bytes is not looked at
pub padding_literal : restored 1 (record { number = 47; old = 0xAA ∷ 0xBB ∷ replicate 14 0x77 }) (state [] (replicate 32 0)) ≡ state [] (replicate 30 0 ++ 0xAA ∷ 0xBB ∷ [])
unfolding numbered
padding_literal = refl

-- fresh journals of both versions, over nine bytes that held something else
pub fresh_literal : (freshened 1 1 (replicate 9 0xFF) ≡ left_with 0 (0x4C ∷ 0x4E ∷ 0x4A ∷ 0x01 ∷ 0x00 ∷ 0x01 ∷ 0x00 ∷ 0x00 ∷ 0x00 ∷ []))
    × (freshened 1 2 (replicate 9 0xFF) ≡ left_with 0 (0x4C ∷ 0x4E ∷ 0x4A ∷ 0x02 ∷ 0x00 ∷ 0x01 ∷ 0x00 ∷ 0x00 ∷ 0x00 ∷ []))
unfolding freshened journal_of layout_of
fresh_literal = (refl, refl)

-- no other version is made: JOURNAL is 5, after LENGTH, 1, and ROOM, 4
pub fresh_refused_literal : (freshened 1 0 (replicate 8 7) ≡ left_with 5 (replicate 8 7)) × (freshened 1 3 (replicate 8 7) ≡ left_with 5 (replicate 8 7))
    × (freshened 1 3 (replicate 7 7) ≡ left_with 4 (replicate 7 7)) × (freshened 3 3 (replicate 7 7) ≡ left_with 1 (replicate 7 7))
unfolding freshened layout_of
fresh_refused_literal = (refl, refl, refl, refl)

-- a journal of a version with one entry that has a number
abbrev pub one_numbered : ℕ → ℕ → List ℕ
one_numbered version n = 0x4C ∷ 0x4E ∷ 0x4A ∷ version ∷ 0x00 ∷ 0x01 ∷ 0x01 ∷ 0x00 ∷ [] ++ n ∷ replicate 16 0

-- numbers to 31 in version 1, to 47 in version 2, and none in versions 0 and 3
pub numbers_literal : (position_refused 1 (one_numbered 1 31) ≡ 0) × (position_refused 1 (one_numbered 1 32) ≡ 5) × (position_refused 1 (one_numbered 1 47) ≡ 5)
    × (position_refused 1 (one_numbered 2 31) ≡ 0) × (position_refused 1 (one_numbered 2 32) ≡ 0) × (position_refused 1 (one_numbered 2 47) ≡ 0)
    × (position_refused 1 (one_numbered 2 48) ≡ 5) × (position_refused 1 (one_numbered 0 31) ≡ 5) × (position_refused 1 (one_numbered 3 31) ≡ 5)
unfolding position_refused layout_of slot_of held_of entries_of
numbers_literal = (refl, refl, refl, refl, refl, refl, refl, refl, refl)
