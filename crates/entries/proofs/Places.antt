-- The journal's layout: slots lie one after the other, those within the capacity lie inside, the limits of a size, the count as its two bytes, and
-- entries that have numbers which entries may have.
-- Assumes nothing.
use Prim.Native.Nat.{ℕ, zero, suc, ◌+◌, ◌-◌, ◌≤◌, ◌<◌}
use mathlib.Core.Path.{◌≡◌, refl, ◌∙◌}
use mathlib.Core.Bool.{Bool, true, false}
use mathlib.Core.List.{List, [], ◌∷◌, ◌++◌}
use native.Mathlib.Nat.{add-zero, zero-add, mul-zero, add-mul-mod_self_left, add-mul-div_left, mod-eq_of_lt, div-eq_of_lt, suc-mul, mul-le-mul_right, div-mul-le_self, div-le_self}
use native.Mathlib.Numerals.{add-one}
use native.Mathlib.Omega.{arith}
use lib.Dec.{leb, ltb}
use lib.ListN.{length, get_or}
use lib.Seq.{drop-cons}
use borrow.Author.Tests.{le-leb, leb-true, ltb-true, ltb-false}
use Rattle.parts.specs.Part.{part}
use Rattle.parts.specs.Number.{number, bytes_of, AreBytes}
use Rattle.parts.proofs.Same.{both_left, both_right}
use Rattle.parts.proofs.Numbers.{number_bytes}
use Rattle.machine.proofs.Places.{place_within}
use Rattle.entries.specs.Layout.{count_at, count_bytes, layout_of, version_of, header_of, most_journal, is_room, entry_bytes}
use Rattle.entries.specs.Layout.{capacity_for, slot_at, held_of, Entry, entry_in, first_entries, are_named}
use Rattle.entries.proofs.Versions.{header_least}

-- after a header, a slot ends where the next starts, and slots lie one after the other
module _ (header k : ℕ) where
  pub slot_next : (i : ℕ) → slot_at header k (suc i) ≡ slot_at header k i + entry_bytes k
  slot_next i = omega (arith, suc-mul i (entry_bytes k))

  pub slot_order : (i j : ℕ) → i < j → slot_at header k i + entry_bytes k ≤ slot_at header k j
  slot_order i j h = omega (arith, place_within i j (entry_bytes k) h)

  -- n bytes hold no more slots than that
  pub capacity_few : (n : ℕ) → capacity_for header k n ≤ n
  capacity_few n = omega (arith, div-le_self (n - header) (entry_bytes k))

  -- as many slots as the capacity lie inside
  pub slots_inside : (n i : ℕ) → header ≤ n → i ≤ capacity_for header k n → slot_at header k i ≤ n
  slots_inside n i h c = omega (arith, mul-le-mul_right (entry_bytes k) c, div-mul-le_self (n - header) (entry_bytes k))

  pub slot_inside : (n i : ℕ) → header ≤ n → i < capacity_for header k n → slot_at header k i + entry_bytes k ≤ n
  slot_inside n i h c = omega (arith, slot_next i, slots_inside n (suc i) h c)

-- the limits of a size for a version
pub room_least : (version n : ℕ) → is_room version n ≡ true → (layout_of version).header ≤ n
room_least version n e = leb-true (layout_of version).header n (both_left _ (leb n most_journal) e)

pub room_most : (version n : ℕ) → is_room version n ≡ true → n ≤ most_journal
room_most version n e = leb-true n most_journal (both_right (leb (layout_of version).header n) _ e)

-- a number in two bytes is the one that was written, and the two bytes of a count are those that it was read from
pub count_read : (n : ℕ) → n < 65536 → number (bytes_of count_bytes n) ≡ n
count_read n h = number_bytes count_bytes n ∙ omega arith

pub count_bytes_lem : (journal : List ℕ) → header_of journal ≤ length journal → AreBytes journal
    → bytes_of count_bytes (held_of journal) ≡ part count_at count_bytes journal
unfolding held_of
count_bytes_lem journal h b =
    let least = header_least (version_of journal) in
    rw (drop-cons journal 6 0 (omega arith), drop-cons journal 7 0 (omega arith))
    (pair (get_or journal 6 0) (get_or journal 7 0) (b 6) (b 7))
  where
    pair : (x y : ℕ) → x < 256 → y < 256 → bytes_of 2 (number (x ∷ y ∷ [])) ≡ x ∷ y ∷ []
    pair x y p q =
        let some : 0 < 256 = omega arith in
        rw (mul-zero, add-zero, add-mul-mod_self_left, add-mul-div_left x y some, div-eq_of_lt p, zero-add, mod-eq_of_lt p, mod-eq_of_lt q)

-- entries whose numbers are not above the greatest
module _ (greatest : ℕ) where
  -- one entry more among those that have such numbers
  pub named_more : (es : List Entry) (e : Entry) → are_named greatest es ≡ true → e.number ≤ greatest → are_named greatest (es ++ e ∷ []) ≡ true
  named_more [] e p h = rw (le-leb _ _ h)
  named_more (x ∷ es) e p h =
      rw (both_left (leb x.number greatest) (are_named greatest es) p)
      (named_more es e (both_right (leb x.number greatest) (are_named greatest es) p) h)

  -- and one entry less: those before the last, and the last
  named_both : (es : List Entry) (e : Entry) → are_named greatest (es ++ e ∷ []) ≡ true → (are_named greatest es ≡ true) × (e.number ≤ greatest)
  named_both [] e p = (refl, leb-true _ _ (both_left _ true p))
  named_both (x ∷ es) e p =
      let more = named_both es e (both_right (leb x.number greatest) _ p) in
      (rw (both_left (leb x.number greatest) (are_named greatest (es ++ e ∷ [])) p) more.0, more.1)

  module _ (k : ℕ) (journal : List ℕ) where
    -- each of the first n entries has such a number, where the test says so
    pub named_all : (n : ℕ) → are_named greatest (first_entries k journal n) ≡ true → (i : ℕ) → i < n → (entry_in k journal i).number ≤ greatest
    named_all zero e i h = absurd (omega arith)
    named_all (suc n) e i h =
        let parts = named_both (first_entries k journal n) (entry_in k journal n) e in
        go (named_all n parts.0 i) parts.1 (ltb i n) refl
      where
        go : (i < n → (entry_in k journal i).number ≤ greatest) → (entry_in k journal n).number ≤ greatest → (t : Bool) → ltb i n ≡ t
            → (entry_in k journal i).number ≤ greatest
        go before last true p = before (ltb-true i n p)
        go before last false p = let here : i ≡ n = omega (arith, ltb-false i n p) in rw here last

    -- and the test says so, where each has
    pub all_named : (n : ℕ) → ((i : ℕ) → i < n → (entry_in k journal i).number ≤ greatest) → are_named greatest (first_entries k journal n) ≡ true
    all_named zero each = refl
    all_named (suc n) each =
        named_more (first_entries k journal n) (entry_in k journal n) (all_named n (λ i h. each i (omega arith))) (each n (omega arith))

    -- the entry after the first n is one more of them
    pub named_next : (n : ℕ) → are_named greatest (first_entries k journal n) ≡ true → (entry_in k journal n).number ≤ greatest
        → are_named greatest (first_entries k journal (n + 1)) ≡ true
    named_next n e h = rw (add-one n) (named_more (first_entries k journal n) (entry_in k journal n) e h)

    -- an entry among them that has none
    pub named_fail : (n i : ℕ) → i < n → greatest < (entry_in k journal i).number → are_named greatest (first_entries k journal n) ≡ false
    named_fail n i h p = go (are_named greatest (first_entries k journal n)) refl
      where
        go : (t : Bool) → are_named greatest (first_entries k journal n) ≡ t → t ≡ false
        go true e = absurd (omega (arith, named_all n e i h))
        go false e = refl
