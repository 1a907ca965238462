-- What the code that writes a journal's entries asks of its caller, and what it leaves.
use Rattle.std.specs.Prelude.{ℕ, ◌+◌, ◌-◌, ◌≤◌, ◌<◌, ◌≡◌, List, length, get_or}
use Rattle.machine.specs.Size.{most_length, vector_bytes}
use Rattle.registers.specs.declared.Kind.{Kind}
use Rattle.registers.specs.Register.{IsRegister, numbered, InFile}
use Rattle.registers.specs.State.{State, Sized}
use Rattle.entries.specs.Layout.{entry_bytes, held_of, last_entry, popped}
use Rattle.entries.specs.Restored.{restored}
use Rattle.entries.specs.Needs.{EntryInside}

-- a place in a journal for an entry with a number and with some old bytes, at most those of a vector
pub record PutEntry (k at number : ℕ) (old journal : List ℕ) : Type 0 where
  pub legal : k ≤ most_length
  pub byte : number < 256
  pub short : length old ≤ vector_bytes k
  pub inside : at + entry_bytes k ≤ length journal

-- register r of a kind in its file, and a journal that has a place for an entry more
pub record Append (k : ℕ) (kind : Kind) (r : ℕ) (file journal : List ℕ) : Type 0 where
  pub register : InFile k kind r file
  pub entry : EntryInside k (held_of journal) journal

-- an entry that starts at a place inside a journal, and names a register of the file of a kind
pub record Restorable (k : ℕ) (kind : Kind) (at : ℕ) (file journal : List ℕ) : Type 0 where
  pub inside : at + entry_bytes k ≤ length journal
  pub register : InFile k kind (numbered (get_or journal at 0)).number file

-- both files, and an entry that starts at a place inside a journal and names a register that there is
pub record PutBack (k at : ℕ) (s : State) (journal : List ℕ) : Type 0 where
  pub sized : Sized k s
  pub inside : at + entry_bytes k ≤ length journal
  pub register : IsRegister (numbered (get_or journal at 0))

-- both files, and a journal with entries, the last of which names a register that there is
pub record TakeBack (k : ℕ) (s : State) (journal : List ℕ) : Type 0 where
  pub sized : Sized k s
  pub some : 0 < held_of journal
  pub last : EntryInside k (held_of journal - 1) journal
  pub register : IsRegister (numbered (last_entry k journal).number)

-- the files with the last entry's bytes in the register that it names, and the journal without it
pub record TakenBack (k : ℕ) (s : State) (journal : List ℕ) (after : State) (journal-after : List ℕ) : Type 0 where
  pub files : after ≡ restored k (last_entry k journal) s
  pub bytes : journal-after ≡ popped k journal
