-- What the code that reads a journal asks of its caller, and two layouts that are the same.
use Rattle.std.specs.Prelude.{ℕ, ◌≤◌, ◌<◌, ◌≡◌, List, length}
use Rattle.machine.specs.Size.{most_length}
use Rattle.entries.specs.declared.Layout.{Layout}
use Rattle.entries.specs.Layout.{header_of, capacity_of}

-- two layouts are the same
pub record SameLayout (a b : Layout) : Type 0 where
  pub header : a.header ≡ b.header
  pub greatest : a.greatest ≡ b.greatest

-- a journal with its version's header, at a length
pub record Headed (k : ℕ) (journal : List ℕ) : Type 0 where
  pub legal : k ≤ most_length
  pub header : header_of journal ≤ length journal

-- a journal with its version's header, at a length, and with a place for entry i
pub record EntryInside (k i : ℕ) (journal : List ℕ) : Type 0 where
  pub headed : Headed k journal
  pub place : i < capacity_of k journal

-- a journal with its version's header, at a length, and with places for the first n entries
pub record Fits (k n : ℕ) (journal : List ℕ) : Type 0 where
  pub headed : Headed k journal
  pub fits : n ≤ capacity_of k journal
