-- The journal's bytes, by the version that they name: mark, version, k and count, then entries, each a register's number and its old bytes.
use Rattle.std.specs.Prelude.{ℕ, zero, suc, ◌+◌, ◌*◌, ◌-◌, ◌/◌, Bool, true, cond, List, [], ◌∷◌, ◌++◌, eqb, leb, length, get_or, take, replicate}
use Rattle.parts.specs.Part.{both, part, with_part, same_bytes}
use Rattle.parts.specs.Number.{bytes_of, number_at, with_number}
use Rattle.machine.specs.Size.{vectors, predicates, is_among, most_words, vector_bytes}
use Rattle.registers.specs.Register.{padded}
use Rattle.entries.specs.declared.Layout.{Layout}

-- where the version stands, and its bytes
abbrev pub journal_version_at : ℕ
journal_version_at = 3

abbrev pub journal_version_bytes : ℕ
journal_version_bytes = 2

-- where the count stands, and its bytes
abbrev pub count_at : ℕ
count_at = 6

abbrev pub count_bytes : ℕ
count_bytes = 2

-- mark `LNJ`, the version in two bytes, and k: what stands before the count
abbrev pub heading : ℕ → ℕ → List ℕ
heading version k = 76 ∷ 78 ∷ 74 ∷ [] ++ bytes_of journal_version_bytes version ++ k ∷ []

-- the versions that are defined: the former, whose entries name vectors, and the current, whose entries name predicates too
abbrev pub former_version : ℕ
former_version = 1

abbrev pub current_version : ℕ
current_version = 2

abbrev pub journal_versions : List ℕ
journal_versions = former_version ∷ current_version ∷ []

abbrev pub is_version : ℕ → Bool
is_version version = is_among version journal_versions

-- a version's bytes before the entries, and its greatest number of an entry: a line for each version, the last also for what is none
abbrev pub laid_out : ℕ → ℕ → Layout
laid_out header greatest = record { header = header; greatest = greatest }

unfoldable pub layout_of : ℕ → Layout
layout_of version =
    cond (eqb version former_version) (laid_out (count_at + count_bytes) (vectors - 1))
    (laid_out (count_at + count_bytes) (vectors + predicates - 1))

-- the version that a journal names, and what that version has
abbrev pub version_of : List ℕ → ℕ
version_of journal = number_at journal_version_at journal_version_bytes journal

abbrev pub header_of : List ℕ → ℕ
header_of journal = (layout_of (version_of journal)).header

abbrev pub greatest_of : List ℕ → ℕ
greatest_of journal = (layout_of (version_of journal)).greatest

-- the most bytes of a lent journal
abbrev pub most_journal : ℕ
most_journal = 65536

-- a size that a lent journal of a version may have
abbrev pub is_room : ℕ → ℕ → Bool
is_room version n = both (leb (layout_of version).header n) (leb n most_journal)

-- an entry: a register's number, and its bytes as they stood
pub record Entry : Type 0 where
  pub number : ℕ
  pub old : List ℕ

abbrev pub entry_bytes : ℕ → ℕ
entry_bytes k = 1 + vector_bytes k

abbrev pub encoded_entry : Entry → List ℕ
encoded_entry e = e.number ∷ e.old

abbrev pub encoded_entries : List Entry → List ℕ
encoded_entries [] = []
encoded_entries (e ∷ es) = encoded_entry e ++ encoded_entries es

-- past a header of so many bytes: where a slot starts, and how many slots n bytes hold
abbrev pub slot_at : ℕ → ℕ → ℕ → ℕ
slot_at header k slot = header + slot * entry_bytes k

abbrev pub capacity_for : ℕ → ℕ → ℕ → ℕ
capacity_for header k n = (n - header) / entry_bytes k

-- how many entries a journal can hold
abbrev pub capacity_of : ℕ → List ℕ → ℕ
capacity_of k journal = capacity_for (header_of journal) k (length journal)

-- how many entries it holds
unfoldable pub held_of : List ℕ → ℕ
held_of journal = number_at count_at count_bytes journal

-- its position: the place of the next step's word
unfoldable pub position_of : List ℕ → ℕ
position_of journal = held_of journal

-- the slot of its held entry i, the oldest being 0
unfoldable pub slot_of : ℕ → List ℕ → ℕ → ℕ
slot_of k journal i = i

-- where its held entry i starts
abbrev pub entry_at : ℕ → List ℕ → ℕ → ℕ
entry_at k journal i = slot_at (header_of journal) k (slot_of k journal i)

-- the entry that starts at a place; the held entry i, the first n, the last, and all
abbrev pub entry_from : ℕ → ℕ → List ℕ → Entry
entry_from k at journal = record { number = get_or journal at 0; old = part (at + 1) (vector_bytes k) journal }

abbrev pub entry_in : ℕ → List ℕ → ℕ → Entry
entry_in k journal i = entry_from k (entry_at k journal i) journal

abbrev pub first_entries : ℕ → List ℕ → ℕ → List Entry
first_entries k journal zero = []
first_entries k journal (suc n) = first_entries k journal n ++ entry_in k journal n ∷ []

abbrev pub last_entry : ℕ → List ℕ → Entry
last_entry k journal = entry_in k journal (held_of journal - 1)

unfoldable pub entries_of : ℕ → List ℕ → List Entry
entries_of k journal = first_entries k journal (held_of journal)

-- no further entry fits
unfoldable pub is_full : ℕ → List ℕ → Bool
is_full k journal = leb (capacity_of k journal) (held_of journal)

-- an entry of a journal may have a number: it is not above the greatest
abbrev pub may_name : ℕ → List ℕ → Bool
may_name number journal = leb number (greatest_of journal)

-- every entry has a number that is not above the greatest
abbrev pub are_named : ℕ → List Entry → Bool
are_named greatest [] = true
are_named greatest (e ∷ es) = both (leb e.number greatest) (are_named greatest es)

-- well formed: the version is defined, mark, version and k agree, the count is at most the words of a program and fits, and every entry held
-- has a number that is not above its version's greatest
abbrev pub is_journal : ℕ → List ℕ → Bool
is_journal k journal =
    both (is_version (version_of journal))
    (both (same_bytes (take count_at journal) (heading (version_of journal) k))
    (both (leb (held_of journal) most_words)
    (both (leb (held_of journal) (capacity_of k journal)) (are_named (greatest_of journal) (entries_of k journal)))))

-- the journal of a version and of n bytes that holds some entries: heading, count, entries, and zeros after them
unfoldable pub journal_of : ℕ → ℕ → ℕ → List Entry → List ℕ
journal_of version k n entries = padded n (heading version k ++ bytes_of count_bytes (length entries) ++ encoded_entries entries)

abbrev pub fresh_journal : ℕ → ℕ → ℕ → List ℕ
fresh_journal version k n = journal_of version k n []

-- a journal with another count
abbrev pub with_count : ℕ → List ℕ → List ℕ
with_count n journal = with_number count_at count_bytes n journal

-- a journal with other bytes where the held entry i stands
abbrev pub with_entry : ℕ → ℕ → List ℕ → List ℕ → List ℕ
with_entry k i bytes journal = with_part (entry_at k journal i) (entry_bytes k) bytes journal

-- an entry more
unfoldable pub pushed : ℕ → Entry → List ℕ → List ℕ
pushed k e journal = with_count (held_of journal + 1) (with_entry k (held_of journal) (encoded_entry e) journal)

-- the last entry zeroed and given up
unfoldable pub popped : ℕ → List ℕ → List ℕ
popped k journal = with_count (held_of journal - 1) (with_entry k (held_of journal - 1) (replicate (entry_bytes k) 0) journal)
