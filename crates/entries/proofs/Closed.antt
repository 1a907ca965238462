-- A journal in closed form, of a version that is defined: heading, count, entries and zeros. What is read of it is its entries, and one entry
-- more, or one less, gives the closed form with that entry or without it.
-- Assumes nothing.
use Prim.Native.Nat.{ℕ, zero, suc, ◌+◌, ◌*◌, ◌-◌, ◌≤◌, ◌<◌}
use mathlib.Core.Path.{◌≡◌, refl, sym, ◌∙◌, ap, ap₂}
use mathlib.Core.Bool.{true}
use mathlib.Core.List.{List, [], ◌∷◌, ◌++◌, append_assoc, append-nil}
use native.Mathlib.Nat.{zero-mul, suc-mul}
use native.Mathlib.Numerals.{add-one}
use native.Mathlib.Omega.{arith}
use lib.ListN.{length, take, drop, replicate, length-append, length-replicate}
use lib.Seq.{take_at, drop_at, drop-drop}
use Rattle.parts.specs.Part.{part}
use Rattle.parts.specs.Number.{bytes_of, number}
use Rattle.parts.proofs.Numbers.{drop_replicate}
use Rattle.machine.specs.Size.{vector_bytes, most_words}
use Rattle.entries.specs.Layout.{journal_version_at, journal_version_bytes, heading, count_at, count_bytes, is_version, layout_of, version_of, header_of, is_room}
use Rattle.entries.specs.Layout.{entry_bytes, slot_at, entry_at, capacity_for, capacity_of, held_of, position_of, Entry, encoded_entry, encoded_entries, last_entry}
use Rattle.entries.specs.Layout.{journal_of, fresh_journal, with_count, with_entry, pushed, popped}
use Rattle.entries.specs.Formed.{Formed}
use Rattle.entries.proofs.Versions.{version_few, header_plain, header_least}
use Rattle.entries.proofs.Places.{room_least, room_most, slot_next, slot_inside, count_read}
use Rattle.entries.proofs.Slots.{slot_plain}
use Rattle.entries.proofs.Written.{room_full, Room, Space, pushed_is, space_last, space_popped}

-- every entry has the bytes of a register
abbrev pub EntriesSized : ℕ → List Entry → Type 0
EntriesSized k [] = Unit {0}
EntriesSized k (e ∷ es) = (length e.old ≡ vector_bytes k) × EntriesSized k es

pub sized_more : (k : ℕ) (es : List Entry) (e : Entry) → EntriesSized k es → length e.old ≡ vector_bytes k → EntriesSized k (es ++ e ∷ [])
sized_more k [] e p h = (h, tt)
sized_more k (x ∷ es) e p h = (p.0, sized_more k es e p.1 h)

length_encoded : (k : ℕ) (es : List Entry) → EntriesSized k es → length (encoded_entries es) ≡ length es * entry_bytes k
length_encoded k [] p = sym (zero-mul (entry_bytes k))
length_encoded k (e ∷ es) p =
    length-append (encoded_entry e) (encoded_entries es) ∙ omega (arith, p.0, length_encoded k es p.1, suc-mul (length es) (entry_bytes k))

encoded_more : (es : List Entry) (e : Entry) → encoded_entries (es ++ e ∷ []) ≡ encoded_entries es ++ encoded_entry e
encoded_more [] e = append-nil (encoded_entry e)
encoded_more (x ∷ es) e = ap (λ (l : List ℕ). encoded_entry x ++ l) (encoded_more es e) ∙ sym (append_assoc (encoded_entry x) (encoded_entries es) (encoded_entry e))

take_replicate : (m n : ℕ) → m ≤ n → take m (replicate {A = ℕ} n 0) ≡ replicate m 0
take_replicate zero n h = refl
take_replicate (suc m) zero h = absurd (omega arith)
take_replicate (suc m) (suc n) h = ap (λ (l : List ℕ). 0 ∷ l) (take_replicate m n (omega arith))

-- the heading and the zeros after it that a fresh journal is
pub fresh_is : (version k n : ℕ) → (layout_of version).header ≤ n → fresh_journal version k n ≡ heading version k ++ replicate (n - count_at) 0
unfolding journal_of
fresh_is version k n h = sym (ap (λ (m : ℕ). heading version k ++ replicate m 0) more)
  where
    more : n - count_at ≡ suc (suc (n - (count_at + count_bytes)))
    more = omega (arith, header_least version)

-- what stands before the zeros, and where it ends
abbrev front : ℕ → ℕ → ℕ → List ℕ → List ℕ
front version k n entries = heading version k ++ bytes_of count_bytes n ++ entries

abbrev end : ℕ → ℕ → ℕ
end k n = slot_at (count_at + count_bytes) k n

module _ (version k n : ℕ) (es : List Entry) (sized : EntriesSized k es) where
  front_length : length (front version k (length es) (encoded_entries es)) ≡ end k (length es)
  front_length = omega (arith, length_encoded k es sized)

  closed_is : journal_of version k n es ≡ front version k (length es) (encoded_entries es) ++ replicate (n - end k (length es)) 0
  unfolding journal_of
  closed_is = ap (λ (m : ℕ). front version k (length es) (encoded_entries es) ++ replicate (n - m) 0) front_length

  -- its heading, and its count
  heading_closed : take count_at (journal_of version k n es) ≡ heading version k
  heading_closed = ap (take count_at) closed_is

  count_closed : part count_at count_bytes (journal_of version k n es) ≡ bytes_of count_bytes (length es)
  count_closed = ap (part count_at count_bytes) closed_is

  pub held_closed : length es ≤ most_words → held_of (journal_of version k n es) ≡ length es
  unfolding held_of
  held_closed h = ap number count_closed ∙ count_read (length es) (omega arith)

  pub position_closed : length es ≤ most_words → position_of (journal_of version k n es) ≡ length es
  unfolding position_of
  position_closed = held_closed

  -- past its entries it has zeros
  zeros_closed : drop (end k (length es)) (journal_of version k n es) ≡ replicate (n - end k (length es)) 0
  zeros_closed =
      ap (drop (end k (length es))) closed_is
      ∙ drop_at (front version k (length es) (encoded_entries es)) (replicate (n - end k (length es)) 0) (end k (length es)) front_length

  -- where the version is defined: the version that it names, and its length
  module _ (versioned : is_version version ≡ true) where
    pub version_closed : version_of (journal_of version k n es) ≡ version
    version_closed = ap (λ (l : List ℕ). number (part journal_version_at journal_version_bytes l)) closed_is ∙ count_read version (version_few version versioned)

    pub length_closed : slot_at (layout_of version).header k (length es) ≤ n → length (journal_of version k n es) ≡ n
    length_closed h =
        ap length closed_is
        ∙ length-append (front version k (length es) (encoded_entries es)) (replicate (n - end k (length es)) 0)
        ∙ omega (arith, front_length, header_plain version versioned, length-replicate {A = ℕ} (n - end k (length es)) 0)

-- with no entries it is well formed
pub formed_none : (version k n : ℕ) → is_version version ≡ true → is_room version n ≡ true → Formed k (fresh_journal version k n)
formed_none version k n versioned room =
    let held = held_closed version k n [] tt (omega arith) in
    let least = room_least version n room in
    let is = version_closed version k n [] tt versioned in
    let size = length_closed version k n [] tt versioned (omega (arith, zero-mul (entry_bytes k))) in
    record {
      least = omega (arith, ap (λ (number : ℕ). (layout_of number).header) is, size, least);
      most = omega (arith, size, room_most version n room);
      versioned = ap is_version is ∙ versioned;
      agrees = heading_closed version k n [] tt ∙ ap (λ (number : ℕ). heading number k) (sym is);
      few = omega (arith, held);
      fits = rw held (omega arith);
      named = λ i h. absurd (omega (arith, held));
    }

-- entries of n bytes after which an entry of a whole register fits, in a version that is defined
pub record RoomAfter (version k n : ℕ) (es : List Entry) (e : Entry) : Type 0 where
  pub versioned : is_version version ≡ true
  pub sized : EntriesSized k es
  pub whole : length e.old ≡ vector_bytes k
  pub least : (layout_of version).header ≤ n
  pub room : length es < capacity_for (layout_of version).header k n
  pub few : length es < most_words

-- one entry more, and that one less
module _ (version k n : ℕ) (es : List Entry) (e : Entry) (r : RoomAfter version k n es e) where
  abbrev journal : List ℕ
  journal = journal_of version k n es

  fits : end k (length es) + entry_bytes k ≤ n
  fits = rw (← header_plain version r.versioned) (slot_inside (layout_of version).header k n (length es) r.least r.room)

  held : held_of journal ≡ length es
  held = held_closed version k n es r.sized (omega (arith, r.few))

  is : version_of journal ≡ version
  is = version_closed version k n es r.sized r.versioned

  size : length journal ≡ n
  size = length_closed version k n es r.sized r.versioned (rw (header_plain version r.versioned) (omega (arith, fits)))

  header : header_of journal ≡ (layout_of version).header
  header = ap (λ (number : ℕ). (layout_of number).header) is

  capacity : capacity_of k journal ≡ capacity_for (layout_of version).header k n
  capacity = ap₂ (λ (bytes m : ℕ). capacity_for bytes k m) header size

  -- where entry i starts
  at : (i : ℕ) → entry_at k journal i ≡ end k i
  at i =
      ap₂ (λ (bytes slot : ℕ). slot_at bytes k slot) (header ∙ header_plain version r.versioned) (slot_plain k i journal (ap is_version is ∙ r.versioned))

  -- the entry laid over the first of the zeros
  entry_closed : with_entry k (length es) (encoded_entry e) journal
      ≡ front version k (length es) (encoded_entries es ++ encoded_entry e) ++ replicate (n - end k (length es) - entry_bytes k) 0
  entry_closed =
      ap (λ (place : ℕ). take place journal ++ encoded_entry e ++ drop (place + entry_bytes k) journal) (at (length es))
      ∙ ap₂ (λ (a b : List ℕ). a ++ encoded_entry e ++ b)
      (ap (take (end k (length es))) (closed_is version k n es r.sized)
      ∙ take_at (front version k (length es) (encoded_entries es)) (replicate (n - end k (length es)) 0) (end k (length es)) (front_length version k n es r.sized))
      (sym (drop-drop (entry_bytes k) (end k (length es)) journal)
      ∙ ap (drop (entry_bytes k)) (zeros_closed version k n es r.sized)
      ∙ drop_replicate (entry_bytes k) (n - end k (length es)) 0)

  pub pushed_closed : pushed k e journal ≡ journal_of version k n (es ++ e ∷ [])
  pushed_closed =
      pushed_is k e journal
      ∙ ap (λ (m : ℕ). with_count (m + 1) (with_entry k m (encoded_entry e) journal)) held
      ∙ ap (with_count (length es + 1)) entry_closed
      ∙ sym
      (closed_is version k n (es ++ e ∷ []) (sized_more k es e r.sized r.whole)
      ∙ ap₂ (λ (m : ℕ) (l : List ℕ). front version k m l ++ replicate (n - end k m) 0) (length-append es (e ∷ [])) (encoded_more es e)
      ∙ ap (λ (m : ℕ). front version k (length es + 1) (encoded_entries es ++ encoded_entry e) ++ replicate m 0) left)
    where
      left : n - end k (length es + 1) ≡ n - end k (length es) - entry_bytes k
      left = rw (add-one (length es)) (omega (arith, slot_next (count_at + count_bytes) k (length es)))

  -- what the laws of one entry more ask for
  space : Space k e journal
  space =
      record {
        least = omega (arith, header, size, r.least);
        place = omega (arith, held, capacity, r.room);
        few = rw held r.few;
        whole = r.whole;
      }

  pub has_room : Formed k journal → Room k e journal
  has_room f = record { formed = f; room = room_full k journal space.place; few = few; whole = r.whole }
    where
      few : position_of journal < most_words
      few = rw (position_closed version k n es r.sized (omega (arith, r.few))) r.few

  pub last_closed : last_entry k (journal_of version k n (es ++ e ∷ [])) ≡ e
  last_closed = ap (last_entry k) (sym pushed_closed) ∙ space_last k e journal space

  pub popped_closed : popped k (journal_of version k n (es ++ e ∷ [])) ≡ journal
  popped_closed = ap (popped k) (sym pushed_closed) ∙ space_popped k e journal space empty two
    where
      empty : part (entry_at k journal (held_of journal)) (entry_bytes k) journal ≡ replicate (entry_bytes k) 0
      empty =
          ap (λ (i : ℕ). part (entry_at k journal i) (entry_bytes k) journal) held
          ∙ ap (λ (place : ℕ). part place (entry_bytes k) journal) (at (length es))
          ∙ ap (take (entry_bytes k)) (zeros_closed version k n es r.sized)
          ∙ take_replicate (entry_bytes k) (n - end k (length es)) (omega (arith, fits))

      two : part count_at count_bytes journal ≡ bytes_of count_bytes (held_of journal)
      two = count_closed version k n es r.sized ∙ ap (bytes_of count_bytes) (sym held)
