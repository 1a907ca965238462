-- The plain walk of a program: the registers alone after its first words, one after the other, and the entries that undo them.
use Rattle.std.specs.Prelude.{ℕ, zero, suc, ◌≤◌, ◌<◌, ◌≡◌, List, [], ◌∷◌, ◌++◌, length}
use Rattle.machine.specs.Size.{most_words}
use Rattle.registers.specs.Register.{entry_number}
use Rattle.registers.specs.State.{State}
use Rattle.programs.specs.Word.{word_at, words_of}
use Rattle.words.specs.Decode.{decoded, fields_of}
use Rattle.cores.specs.Core.{decoded_on}
use Rattle.words.specs.declared.Fields.{Fields}
use Rattle.words.specs.Decode.{Word}
use Rattle.meaning.specs.Execute.{target_of, executed}
use Rattle.entries.specs.Layout.{Entry, version_of, greatest_of, capacity_of, journal_of}
use Rattle.entries.specs.Restored.{entry_of}
use Rattle.journal.specs.Left.{Core, Buffers, buffers_of}

-- the fields of word i of a program
abbrev pub fields_in : List ℕ → ℕ → Fields
fields_in program i = fields_of (decoded (word_at program i))

-- the registers after the first n words
unfoldable pub walked_state : ℕ → List ℕ → ℕ → State → State
walked_state k program zero s = s
walked_state k program (suc n) s = executed (fields_in program n) k (walked_state k program n s)

-- the entry of each of those words, from the registers before it
unfoldable pub walked_entries : ℕ → List ℕ → ℕ → State → List Entry
walked_entries k program zero s = []
walked_entries k program (suc n) s =
    walked_entries k program n s ++ entry_of k (target_of (fields_in program n)) (walked_state k program n s) ∷ []

-- n words that can be walked on a core from a start: the program has them, no more than it may have, their entries fit into the start's journal,
-- the core accepts each, and an entry of that journal may name the register that it writes
pub record Walkable (c : Core) (program : List ℕ) (start : Buffers) (n : ℕ) : Type 0 where
  pub inside : n ≤ words_of (length program)
  pub few : n ≤ most_words
  pub fits : n ≤ capacity_of c.k start.journal
  pub accepted : (i : ℕ) → i < n → decoded_on c.facts (word_at program i) ≡ Word (fields_in program i)
  pub named : (i : ℕ) → i < n → entry_number (target_of (fields_in program i)) ≤ greatest_of start.journal

-- what the plain walk of n words leaves: the registers after them, and a journal of the start's version and size that holds their entries
abbrev pub walked_buffers : ℕ → List ℕ → Buffers → ℕ → Buffers
walked_buffers k program start n =
    buffers_of (walked_state k program n start.files)
    (journal_of (version_of start.journal) k (length start.journal) (walked_entries k program n start.files))

-- buffers as the plain walk of n words leaves them, and the words can be walked
pub record AsWalked (c : Core) (program : List ℕ) (start : Buffers) (n : ℕ) (b : Buffers) : Type 0 where
  pub left : b ≡ walked_buffers c.k program start n
  pub walkable : Walkable c program start n
