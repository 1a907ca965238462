-- An entry and a count written: what is read of them is what was written, the other entries and the rest stay. So for one entry more and for one
-- less; and an entry more and then one less, where there were zeros, gives the journal as it stood.
-- Assumes nothing.
use Prim.Native.Nat.{ℕ, zero, suc, ◌+◌, ◌-◌, ◌≤◌, ◌<◌}
use mathlib.Core.Path.{◌≡◌, refl, sym, ◌∙◌, ap, ap₂}
use mathlib.Core.Logic.{◌⊎◌, inl, inr}
use mathlib.Core.Bool.{Bool, true, false}
use lib.Dec.{ltb}
use mathlib.Core.List.{List, [], ◌∷◌, ◌++◌}
use native.Mathlib.Nat.{add-zero}
use native.Mathlib.Numerals.{add-one}
use native.Mathlib.Omega.{arith}
use lib.ListN.{length, get_or, take, replicate, length-replicate}
use lib.Seq.{take_all}
use borrow.Author.Tests.{leb-false, ltb-true, ltb-false, lt-leb}
use Rattle.parts.specs.Part.{part, with_part, Outside}
use Rattle.parts.specs.Number.{number, bytes_of, number_at}
use Rattle.parts.proofs.Numbers.{length_bytes_lem}
use Rattle.parts.proofs.Parts.{part_part, length_part, length_with, take_with, part_with, part_before, part_after, get_d_with, get_d_before, get_d_after, get_d_outside}
use Rattle.parts.proofs.Parts.{with_again, with_comm, with_same}
use Rattle.machine.specs.Size.{vector_bytes, most_words}
use Rattle.entries.specs.Layout.{count_at, count_bytes, heading, is_version, version_of, header_of, greatest_of, entry_bytes, entry_at, capacity_of, held_of, position_of, Entry}
use Rattle.entries.specs.Layout.{encoded_entry, entry_from, entry_in, first_entries, last_entry, entries_of, is_full, with_count, with_entry, pushed, popped}
use Rattle.entries.specs.Formed.{Formed}
use Rattle.entries.proofs.Places.{count_read}
use Rattle.entries.proofs.Slots.{Alike, version_alike, header_alike, greatest_alike, capacity_alike, entry_alike, entry_past, entry_inside, entry_apart}

-- an entry of two parts
entry_is : (d c : ℕ) (a b : List ℕ) → d ≡ c → a ≡ b → ◌≡◌ {A = Entry} (record { number = d; old = a }) (record { number = c; old = b })
entry_is d c a b p q = ap₂ (λ (n : ℕ) (l : List ℕ). record { number = n; old = l }) p q

-- a journal with an entry's bytes at a place, and with a count
abbrev put : ℕ → ℕ → ℕ → List ℕ → List ℕ → List ℕ
put k at n e journal = with_count n (with_part at (entry_bytes k) e journal)

module _ (k at n : ℕ) (e journal : List ℕ) (past : count_at + count_bytes ≤ at) (inside : at + entry_bytes k ≤ length journal) (sized : length e ≡ entry_bytes k) where
  length_entry : length (with_part at (entry_bytes k) e journal) ≡ length journal
  length_entry = length_with at (entry_bytes k) e journal inside sized

  header : count_at + count_bytes ≤ length (with_part at (entry_bytes k) e journal)
  header = omega (arith, length_entry)

  two : length (bytes_of count_bytes n) ≡ count_bytes
  two = length_bytes_lem count_bytes n

  length_put : length (put k at n e journal) ≡ length journal
  length_put = length_with count_at count_bytes (bytes_of count_bytes n) (with_part at (entry_bytes k) e journal) header two ∙ length_entry

  heading_put : take count_at (put k at n e journal) ≡ take count_at journal
  heading_put =
      take_with count_at count_bytes (bytes_of count_bytes n) (with_part at (entry_bytes k) e journal) header two count_at (omega arith)
      ∙ take_with at (entry_bytes k) e journal inside sized count_at (omega arith)

  count_put : n < 65536 → number_at count_at count_bytes (put k at n e journal) ≡ n
  count_put h =
      ap number (part_with count_at count_bytes (bytes_of count_bytes n) (with_part at (entry_bytes k) e journal) header two) ∙ count_read n h

  -- past the count only the entry is written
  past_part : (a m : ℕ) → count_at + count_bytes ≤ a → part a m (put k at n e journal) ≡ part a m (with_part at (entry_bytes k) e journal)
  past_part = part_after count_at count_bytes (bytes_of count_bytes n) (with_part at (entry_bytes k) e journal) header two

  past_byte : (a : ℕ) → count_at + count_bytes ≤ a → get_or (put k at n e journal) a 0 ≡ get_or (with_part at (entry_bytes k) e journal) a 0
  past_byte = get_d_after count_at count_bytes (bytes_of count_bytes n) (with_part at (entry_bytes k) e journal) header two

  -- the entry that is written
  entry_put : entry_from k at (put k at n e journal) ≡ record { number = get_or e 0 0; old = part 1 (vector_bytes k) e }
  entry_put =
      entry_is _ (get_or e 0 0) _ (part 1 (vector_bytes k) e)
      (past_byte at past
      ∙ ap (λ (j : ℕ). get_or (with_part at (entry_bytes k) e journal) j 0) (sym (add-zero at))
      ∙ get_d_with at (entry_bytes k) e journal inside sized 0 (omega arith))
      (past_part (at + 1) (vector_bytes k) (omega arith)
      ∙ sym (part_part at (entry_bytes k) 1 (vector_bytes k) (with_part at (entry_bytes k) e journal) (omega (arith, length_entry)) (omega arith))
      ∙ ap (part 1 (vector_bytes k)) (part_with at (entry_bytes k) e journal inside sized))

  -- an entry that lies before it or after it
  entry_beside : (b : ℕ) → count_at + count_bytes ≤ b → (b + entry_bytes k ≤ at) ⊎ (at + entry_bytes k ≤ b)
      → entry_from k b (put k at n e journal) ≡ entry_from k b journal
  entry_beside b h (inl before) =
      entry_is _ (get_or journal b 0) _ (part (b + 1) (vector_bytes k) journal)
      (past_byte b h ∙ get_d_before at (entry_bytes k) e journal inside sized b (omega arith))
      (past_part (b + 1) (vector_bytes k) (omega arith) ∙ part_before at (entry_bytes k) e journal inside sized (b + 1) (vector_bytes k) (omega arith))
  entry_beside b h (inr after) =
      entry_is _ (get_or journal b 0) _ (part (b + 1) (vector_bytes k) journal)
      (past_byte b h ∙ get_d_after at (entry_bytes k) e journal inside sized b after)
      (past_part (b + 1) (vector_bytes k) (omega arith) ∙ part_after at (entry_bytes k) e journal inside sized (b + 1) (vector_bytes k) (omega arith))

  -- a byte outside both
  byte_kept : (x : ℕ) → Outside count_at count_bytes x → Outside at (entry_bytes k) x → get_or (put k at n e journal) x 0 ≡ get_or journal x 0
  byte_kept x p q =
      get_d_outside count_at count_bytes (bytes_of count_bytes n) (with_part at (entry_bytes k) e journal) header two x p
      ∙ get_d_outside at (entry_bytes k) e journal inside sized x q

  -- written again
  put_again : (m : ℕ) (f : List ℕ) → length f ≡ entry_bytes k → put k at m f (put k at n e journal) ≡ put k at m f journal
  put_again m f sized-f =
      ap (with_count m) (with_comm count_at count_bytes (bytes_of count_bytes n) (with_part at (entry_bytes k) e journal) header two at (entry_bytes k) f past room)
      ∙ ap (λ (l : List ℕ). with_count m (with_count n l)) (with_again at (entry_bytes k) e journal inside sized f)
      ∙ with_again count_at count_bytes (bytes_of count_bytes n) (with_part at (entry_bytes k) f journal) again two (bytes_of count_bytes m)
    where
      room : at + entry_bytes k ≤ length (with_part at (entry_bytes k) e journal)
      room = omega (arith, length_entry)

      again : count_at + count_bytes ≤ length (with_part at (entry_bytes k) f journal)
      again = omega (arith, length_with at (entry_bytes k) f journal inside sized-f)

-- a journal with entry i and the count written
abbrev written : ℕ → ℕ → ℕ → List ℕ → List ℕ → List ℕ
written k i n e journal = with_count n (with_entry k i e journal)

module _ (k i n : ℕ) (e journal : List ℕ) (least : header_of journal ≤ length journal) (place : i < capacity_of k journal) (sized : length e ≡ entry_bytes k) where
  past : count_at + count_bytes ≤ entry_at k journal i
  past = entry_past k i journal

  inside : entry_at k journal i + entry_bytes k ≤ length journal
  inside = entry_inside k i journal least place

  alike_written : Alike (written k i n e journal) journal
  alike_written =
      record { size = length_put k (entry_at k journal i) n e journal past inside sized; heading = heading_put k (entry_at k journal i) n e journal past inside sized }

  held_written : n ≤ most_words → held_of (written k i n e journal) ≡ n
  unfolding held_of
  held_written h = count_put k (entry_at k journal i) n e journal past inside sized (omega arith)

  -- the entry that is written, and the others
  entry_written : entry_in k (written k i n e journal) i ≡ record { number = get_or e 0 0; old = part 1 (vector_bytes k) e }
  entry_written =
      ap (λ (at : ℕ). entry_from k at (written k i n e journal)) (entry_alike k i _ journal alike_written)
      ∙ entry_put k (entry_at k journal i) n e journal past inside sized

  entry_kept : (j : ℕ) → j < capacity_of k journal → (j ≡ i → ⊥) → entry_in k (written k i n e journal) j ≡ entry_in k journal j
  entry_kept j h other =
      ap (λ (at : ℕ). entry_from k at (written k i n e journal)) (entry_alike k j _ journal alike_written)
      ∙ entry_beside k (entry_at k journal i) n e journal past inside sized (entry_at k journal j) (entry_past k j journal) (entry_apart k j i journal h place other)

  entries_kept : (m : ℕ) → m ≤ i → first_entries k (written k i n e journal) m ≡ first_entries k journal m
  entries_kept zero h = refl
  entries_kept (suc m) h =
      ap₂ (λ (es : List Entry) (x : Entry). es ++ x ∷ []) (entries_kept m (omega arith)) (entry_kept m (omega arith) (λ same. omega arith))

  -- entry i and the count written again
  written_again : (m : ℕ) (f : List ℕ) → length f ≡ entry_bytes k → written k i m f (written k i n e journal) ≡ written k i m f journal
  written_again m f sized-f =
      ap (λ (at : ℕ). put k at m f (written k i n e journal)) (entry_alike k i _ journal alike_written)
      ∙ put_again k (entry_at k journal i) n e journal past inside sized m f sized-f

-- one entry more and one less, as what is written
pub pushed_is : (k : ℕ) (e : Entry) (journal : List ℕ) → pushed k e journal ≡ with_count (held_of journal + 1) (with_entry k (held_of journal) (encoded_entry e) journal)
unfolding pushed
pushed_is k e journal = refl

pub popped_is : (k : ℕ) (journal : List ℕ)
    → popped k journal ≡ with_count (held_of journal - 1) (with_entry k (held_of journal - 1) (replicate (entry_bytes k) 0) journal)
unfolding popped
popped_is k journal = refl

-- an entry of a whole register, and a journal that has a place for it
pub record Space (k : ℕ) (e : Entry) (journal : List ℕ) : Type 0 where
  pub least : header_of journal ≤ length journal
  pub place : held_of journal < capacity_of k journal
  pub few : held_of journal < most_words
  pub whole : length e.old ≡ vector_bytes k

module _ (k : ℕ) (e : Entry) (journal : List ℕ) (s : Space k e journal) where
  entry_size : length (encoded_entry e) ≡ entry_bytes k
  entry_size = omega (arith, s.whole)

  space_alike : Alike (pushed k e journal) journal
  unfolding pushed
  space_alike = alike_written k (held_of journal) (held_of journal + 1) (encoded_entry e) journal s.least s.place entry_size

  space_held : held_of (pushed k e journal) ≡ held_of journal + 1
  unfolding pushed
  space_held = held_written k (held_of journal) (held_of journal + 1) (encoded_entry e) journal s.least s.place entry_size (omega (arith, s.few))

  -- the entry at its place, and those before it
  space_new : entry_in k (pushed k e journal) (held_of journal) ≡ e
  unfolding pushed
  space_new =
      entry_written k (held_of journal) (held_of journal + 1) (encoded_entry e) journal s.least s.place entry_size
      ∙ ap (λ (l : List ℕ). record { number = e.number; old = l }) (take_all (vector_bytes k) e.old (omega (arith, s.whole)))

  space_kept : (i : ℕ) → i < held_of journal → entry_in k (pushed k e journal) i ≡ entry_in k journal i
  unfolding pushed
  space_kept i h =
      entry_kept k (held_of journal) (held_of journal + 1) (encoded_entry e) journal s.least s.place entry_size i (omega (arith, s.place)) (λ same. omega arith)

  pub space_last : last_entry k (pushed k e journal) ≡ e
  space_last = let last : held_of (pushed k e journal) - 1 ≡ held_of journal = omega (arith, space_held) in ap (entry_in k (pushed k e journal)) last ∙ space_new

  -- and then one less, where the room was zeros and the count's bytes were those of the count
  pub space_popped : part (entry_at k journal (held_of journal)) (entry_bytes k) journal ≡ replicate (entry_bytes k) 0
      → part count_at count_bytes journal ≡ bytes_of count_bytes (held_of journal)
      → popped k (pushed k e journal) ≡ journal
  space_popped empty two =
      popped_is k (pushed k e journal)
      ∙ ap (λ (n : ℕ). written k n n (replicate (entry_bytes k) 0) (pushed k e journal)) last
      ∙ ap (written k (held_of journal) (held_of journal) (replicate (entry_bytes k) 0)) (pushed_is k e journal)
      ∙ written_again k (held_of journal) (held_of journal + 1) (encoded_entry e) journal s.least s.place entry_size (held_of journal)
      (replicate (entry_bytes k) 0) (length-replicate (entry_bytes k) 0)
      ∙ ap (with_count (held_of journal))
      (ap (λ (l : List ℕ). with_entry k (held_of journal) l journal) (sym empty) ∙ with_same (entry_at k journal (held_of journal)) (entry_bytes k) journal)
      ∙ ap (λ (l : List ℕ). with_part count_at count_bytes l journal) (sym two)
      ∙ with_same count_at count_bytes journal
    where
      last : held_of (pushed k e journal) - 1 ≡ held_of journal
      last = omega (arith, space_held)

-- what a well-formed journal says of its count and its position
module _ (k : ℕ) (journal : List ℕ) (f : Formed k journal) where
  pub held_position : position_of journal ≤ most_words
  unfolding position_of
  held_position = f.few

  pub held_few : position_of journal < most_words → held_of journal < most_words
  unfolding position_of
  held_few h = h

-- and one that is not full
pub full_room : (k : ℕ) (journal : List ℕ) → is_full k journal ≡ false → Formed k journal → held_of journal < capacity_of k journal
unfolding is_full
full_room k journal h f = leb-false _ _ h

pub room_full : (k : ℕ) (journal : List ℕ) → held_of journal < capacity_of k journal → is_full k journal ≡ false
unfolding is_full
room_full k journal h = lt-leb _ _ h

-- an entry of a whole register, and a well-formed journal that has room for it
pub record Room (k : ℕ) (e : Entry) (journal : List ℕ) : Type 0 where
  pub formed : Formed k journal
  pub room : is_full k journal ≡ false
  pub few : position_of journal < most_words
  pub whole : length e.old ≡ vector_bytes k

-- one entry more
module _ (k : ℕ) (e : Entry) (journal : List ℕ) (r : Room k e journal) where
  space : Space k e journal
  space =
      record {
        least = r.formed.least;
        place = full_room k journal r.room r.formed;
        few = held_few k journal r.formed r.few;
        whole = r.whole;
      }

  pub entry_room : entry_at k journal (held_of journal) + entry_bytes k ≤ length journal
  entry_room = entry_inside k (held_of journal) journal space.least space.place

  pub length_pushed : length (pushed k e journal) ≡ length journal
  length_pushed = (space_alike k e journal space).size

  pub heading_pushed : take count_at (pushed k e journal) ≡ take count_at journal
  heading_pushed = (space_alike k e journal space).heading

  pub version_pushed : version_of (pushed k e journal) ≡ version_of journal
  version_pushed = version_alike (pushed k e journal) journal heading_pushed

  pub capacity_pushed : capacity_of k (pushed k e journal) ≡ capacity_of k journal
  capacity_pushed = capacity_alike k (pushed k e journal) journal (space_alike k e journal space)

  pub held_pushed : held_of (pushed k e journal) ≡ held_of journal + 1
  held_pushed = space_held k e journal space

  pub position_pushed : position_of (pushed k e journal) ≡ position_of journal + 1
  unfolding position_of
  position_pushed = held_pushed

  pub last_pushed : last_entry k (pushed k e journal) ≡ e
  last_pushed = space_last k e journal space

  first_pushed : (n : ℕ) → n ≤ held_of journal → first_entries k (pushed k e journal) n ≡ first_entries k journal n
  first_pushed zero h = refl
  first_pushed (suc n) h =
      ap₂ (λ (es : List Entry) (x : Entry). es ++ x ∷ []) (first_pushed n (omega arith)) (space_kept k e journal space n (omega arith))

  pub entries_pushed : entries_of k (pushed k e journal) ≡ entries_of k journal ++ e ∷ []
  unfolding entries_of
  entries_pushed =
      ap (first_entries k (pushed k e journal)) (held_pushed ∙ add-one (held_of journal))
      ∙ ap₂ (λ (es : List Entry) (x : Entry). es ++ x ∷ []) (first_pushed (held_of journal) (omega arith)) (space_new k e journal space)

  -- it stays well formed, where the entry has a number that one may have
  pub formed_pushed : e.number ≤ greatest_of journal → Formed k (pushed k e journal)
  formed_pushed h =
      record {
        least = omega (arith, header_alike (pushed k e journal) journal heading_pushed, length_pushed, r.formed.least);
        most = omega (arith, length_pushed, r.formed.most);
        versioned = ap is_version version_pushed ∙ r.formed.versioned;
        agrees = heading_pushed ∙ r.formed.agrees ∙ ap (λ (version : ℕ). heading version k) (sym version_pushed);
        few = rw held_pushed (omega (arith, space.few));
        fits = rw (held_pushed, capacity_pushed) (omega (arith, space.place));
        named = λ i below. names i (ltb i (held_of journal)) (omega (arith, held_pushed)) refl;
      }
    where
      most : greatest_of (pushed k e journal) ≡ greatest_of journal
      most = greatest_alike (pushed k e journal) journal heading_pushed

      names : (i : ℕ) (t : Bool) → i ≤ held_of journal → ltb i (held_of journal) ≡ t
          → (entry_in k (pushed k e journal) i).number ≤ greatest_of (pushed k e journal)
      names i true below before =
          let earlier = ltb-true i (held_of journal) before in
          omega (arith, ap (λ (x : Entry). x.number) (space_kept k e journal space i earlier), r.formed.named i earlier, most)
      names i false below after =
          let last : i ≡ held_of journal = omega (arith, ltb-false i (held_of journal) after) in
          rw last (omega (arith, ap (λ (x : Entry). x.number) (space_new k e journal space), most))

  -- what is neither the count nor the entry stays
  pub pushed_kept : (x : ℕ) → Outside count_at count_bytes x → Outside (entry_at k journal (held_of journal)) (entry_bytes k) x
      → get_or (pushed k e journal) x 0 ≡ get_or journal x 0
  unfolding pushed
  pushed_kept =
      byte_kept k (entry_at k journal (held_of journal)) (held_of journal + 1) (encoded_entry e) journal (entry_past k (held_of journal) journal) entry_room
      (entry_size k e journal space)

  -- and then one less
  pub popped_pushed : part (entry_at k journal (held_of journal)) (entry_bytes k) journal ≡ replicate (entry_bytes k) 0
      → part count_at count_bytes journal ≡ bytes_of count_bytes (held_of journal)
      → popped k (pushed k e journal) ≡ journal
  popped_pushed = space_popped k e journal space

-- one entry less
module _ (k : ℕ) (journal : List ℕ) (f : Formed k journal) (some : 0 < held_of journal) where
  -- the last entry lies inside, and has a number that one may have and a whole register
  last_place : held_of journal - 1 < capacity_of k journal
  last_place = omega (arith, f.fits)

  pub last_inside : entry_at k journal (held_of journal - 1) + entry_bytes k ≤ length journal
  last_inside = entry_inside k (held_of journal - 1) journal f.least last_place

  pub last_named : (last_entry k journal).number ≤ greatest_of journal
  last_named = f.named (held_of journal - 1) (omega arith)

  pub length_last : length (last_entry k journal).old ≡ vector_bytes k
  length_last = length_part (entry_at k journal (held_of journal - 1) + 1) (vector_bytes k) journal (omega (arith, last_inside))

  zeros_size : length (replicate {A = ℕ} (entry_bytes k) 0) ≡ entry_bytes k
  zeros_size = length-replicate (entry_bytes k) 0

  alike_popped : Alike (popped k journal) journal
  unfolding popped
  alike_popped = alike_written k (held_of journal - 1) (held_of journal - 1) (replicate (entry_bytes k) 0) journal f.least last_place zeros_size

  pub length_popped : length (popped k journal) ≡ length journal
  length_popped = alike_popped.size

  pub heading_popped : take count_at (popped k journal) ≡ take count_at journal
  heading_popped = alike_popped.heading

  pub version_popped : version_of (popped k journal) ≡ version_of journal
  version_popped = version_alike (popped k journal) journal heading_popped

  pub capacity_popped : capacity_of k (popped k journal) ≡ capacity_of k journal
  capacity_popped = capacity_alike k (popped k journal) journal alike_popped

  pub held_popped : held_of (popped k journal) ≡ held_of journal - 1
  unfolding popped
  held_popped =
      held_written k (held_of journal - 1) (held_of journal - 1) (replicate (entry_bytes k) 0) journal f.least last_place zeros_size (omega (arith, f.few))

  pub position_some : 0 < position_of journal
  unfolding position_of
  position_some = some

  pub position_popped : position_of (popped k journal) ≡ position_of journal - 1
  unfolding position_of
  position_popped = held_popped

  entry_popped : (i : ℕ) → i < held_of journal - 1 → entry_in k (popped k journal) i ≡ entry_in k journal i
  unfolding popped
  entry_popped i h =
      entry_kept k (held_of journal - 1) (held_of journal - 1) (replicate (entry_bytes k) 0) journal f.least last_place zeros_size i (omega (arith, last_place))
      (λ same. omega arith)

  -- it stays well formed
  pub formed_popped : Formed k (popped k journal)
  formed_popped =
      record {
        least = omega (arith, header_alike (popped k journal) journal heading_popped, length_popped, f.least);
        most = omega (arith, length_popped, f.most);
        versioned = ap is_version version_popped ∙ f.versioned;
        agrees = heading_popped ∙ f.agrees ∙ ap (λ (number : ℕ). heading number k) (sym version_popped);
        few = rw held_popped (omega (arith, f.few));
        fits = rw (held_popped, capacity_popped) (omega (arith, f.fits));
        named = λ i below. names i (omega (arith, held_popped));
      }
    where
      names : (i : ℕ) → i < held_of journal - 1 → (entry_in k (popped k journal) i).number ≤ greatest_of (popped k journal)
      names i h =
          omega
          (arith, ap (λ (x : Entry). x.number) (entry_popped i h), greatest_alike (popped k journal) journal heading_popped, f.named i (omega arith))

  -- what is neither the count nor the entry stays
  pub popped_kept : (x : ℕ) → Outside count_at count_bytes x → Outside (entry_at k journal (held_of journal - 1)) (entry_bytes k) x
      → get_or (popped k journal) x 0 ≡ get_or journal x 0
  unfolding popped
  popped_kept =
      byte_kept k (entry_at k journal (held_of journal - 1)) (held_of journal - 1) (replicate (entry_bytes k) 0) journal (entry_past k (held_of journal - 1) journal)
      last_inside zeros_size
