-- The slots of the entries that a journal holds: they depend on its length and on the bytes before its count alone, lie within the capacity, and
-- two entries have two slots. So an entry's place lies inside, past the count, and two entries' places do not overlap.
-- Assumes nothing.
use Prim.Native.Nat.{ℕ, ◌+◌, ◌≤◌, ◌<◌}
use mathlib.Core.Path.{◌≡◌, refl, sym, ◌∙◌, ap, ap₂}
use mathlib.Core.Logic.{◌⊎◌, inl, inr}
use mathlib.Core.Bool.{Bool, true, false}
use mathlib.Core.List.{List, [], ◌∷◌}
use native.Mathlib.Omega.{arith}
use lib.Dec.{ltb}
use lib.ListN.{length, take, drop}
use lib.Seq.{take-take}
use borrow.Author.Tests.{ltb-true, ltb-false}
use Rattle.parts.specs.Number.{number}
use Rattle.entries.specs.Layout.{journal_version_at, journal_version_bytes, count_at, count_bytes, is_version, layout_of, version_of, header_of, greatest_of}
use Rattle.entries.specs.Layout.{entry_bytes, slot_at, capacity_for, capacity_of, slot_of, entry_at}
use Rattle.entries.proofs.Versions.{header_least}
use Rattle.entries.proofs.Places.{slot_order, slot_inside}

-- two journals with one length and the same bytes before the count
pub record Alike (a b : List ℕ) : Type 0 where
  pub size : length a ≡ length b
  pub heading : take count_at a ≡ take count_at b

-- the version stands before the count
pub version_alike : (a b : List ℕ) → take count_at a ≡ take count_at b → version_of a ≡ version_of b
version_alike a b same = sym (read a) ∙ ap (λ (l : List ℕ). number (take journal_version_bytes (drop journal_version_at l))) same ∙ read b
  where
    read : (l : List ℕ) → number (take journal_version_bytes (drop journal_version_at (take count_at l))) ≡ version_of l
    read [] = refl
    read (x ∷ []) = refl
    read (x ∷ y ∷ []) = refl
    read (x ∷ y ∷ z ∷ l) = ap number (take-take journal_version_bytes 3 l (omega arith))

-- and with it what the version has
pub header_alike : (a b : List ℕ) → take count_at a ≡ take count_at b → header_of a ≡ header_of b
header_alike a b same = ap (λ (version : ℕ). (layout_of version).header) (version_alike a b same)

pub greatest_alike : (a b : List ℕ) → take count_at a ≡ take count_at b → greatest_of a ≡ greatest_of b
greatest_alike a b same = ap (λ (version : ℕ). (layout_of version).greatest) (version_alike a b same)

-- the slots
pub slot_alike : (k i : ℕ) (a b : List ℕ) → Alike a b → slot_of k a i ≡ slot_of k b i
unfolding slot_of
slot_alike k i a b same = refl

pub slot_within : (k i : ℕ) (journal : List ℕ) → i < capacity_of k journal → slot_of k journal i < capacity_of k journal
unfolding slot_of
slot_within k i journal h = h

pub slot_apart : (k i j : ℕ) (journal : List ℕ) → i < capacity_of k journal → j < capacity_of k journal → (i ≡ j → ⊥)
    → slot_of k journal i ≡ slot_of k journal j → ⊥
unfolding slot_of
slot_apart k i j journal p q other same = other same

-- where a version drops nothing, entry i has slot i
pub slot_plain : (k i : ℕ) (journal : List ℕ) → is_version (version_of journal) ≡ true → slot_of k journal i ≡ i
unfolding slot_of
slot_plain k i journal h = refl

-- the capacity and the places of alike journals
pub capacity_alike : (k : ℕ) (a b : List ℕ) → Alike a b → capacity_of k a ≡ capacity_of k b
capacity_alike k a b same =
    ap₂ (λ (header n : ℕ). capacity_for header k n) (header_alike a b same.heading) same.size

pub entry_alike : (k i : ℕ) (a b : List ℕ) → Alike a b → entry_at k a i ≡ entry_at k b i
entry_alike k i a b same =
    ap₂ (λ (header slot : ℕ). slot_at header k slot) (header_alike a b same.heading) (slot_alike k i a b same)

-- a header and a slot that are an entry's
pub entry_placed : (k i header slot : ℕ) (journal : List ℕ) → header ≡ header_of journal → slot ≡ slot_of k journal i → slot_at header k slot ≡ entry_at k journal i
entry_placed k i header slot journal h s = ap₂ (λ (a b : ℕ). slot_at a k b) h s

-- an entry lies past the count
pub entry_past : (k i : ℕ) (journal : List ℕ) → count_at + count_bytes ≤ entry_at k journal i
entry_past k i journal = omega (arith, header_least (version_of journal))

-- inside
pub entry_inside : (k i : ℕ) (journal : List ℕ) → header_of journal ≤ length journal → i < capacity_of k journal
    → entry_at k journal i + entry_bytes k ≤ length journal
entry_inside k i journal h c =
    slot_inside (header_of journal) k (length journal) (slot_of k journal i) h (slot_within k i journal c)

-- two slots lie one before the other
slots_beside : (header k a b : ℕ) → (a ≡ b → ⊥)
    → (slot_at header k a + entry_bytes k ≤ slot_at header k b) ⊎ (slot_at header k b + entry_bytes k ≤ slot_at header k a)
slots_beside header k a b differ = go (ltb a b) (ltb b a) refl refl
  where
    go : (t u : Bool) → ltb a b ≡ t → ltb b a ≡ u
        → (slot_at header k a + entry_bytes k ≤ slot_at header k b) ⊎ (slot_at header k b + entry_bytes k ≤ slot_at header k a)
    go true u e f = inl (slot_order header k a b (ltb-true a b e))
    go false true e f = inr (slot_order header k b a (ltb-true b a f))
    go false false e f = let same : a ≡ b = omega (arith, ltb-false a b e, ltb-false b a f) in absurd (differ same)

-- and before or after any other
pub entry_apart : (k i j : ℕ) (journal : List ℕ) → i < capacity_of k journal → j < capacity_of k journal → (i ≡ j → ⊥)
    → (entry_at k journal i + entry_bytes k ≤ entry_at k journal j) ⊎ (entry_at k journal j + entry_bytes k ≤ entry_at k journal i)
entry_apart k i j journal p q other =
    slots_beside (header_of journal) k (slot_of k journal i) (slot_of k journal j) (slot_apart k i j journal p q other)
