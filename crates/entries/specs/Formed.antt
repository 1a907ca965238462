-- A well-formed journal of a legal size, in the paper's words.
use Rattle.std.specs.Prelude.{ℕ, ◌≤◌, ◌<◌, ◌≡◌, true, List, length, take}
use Rattle.machine.specs.Size.{most_words}
use Rattle.entries.specs.Layout.{count_at, heading, most_journal, is_version, version_of, header_of, greatest_of, held_of, capacity_of, entry_in}

-- its size is within the limits of its version, which is defined; mark, version and k agree; the count is at most the words of a program and
-- fits; and each entry that it holds has a number that one may have
pub record Formed (k : ℕ) (journal : List ℕ) : Type 0 where
  pub least : header_of journal ≤ length journal
  pub most : length journal ≤ most_journal
  pub versioned : is_version (version_of journal) ≡ true
  pub agrees : take count_at journal ≡ heading (version_of journal) k
  pub few : held_of journal ≤ most_words
  pub fits : held_of journal ≤ capacity_of k journal
  pub named : (i : ℕ) → i < held_of journal → (entry_in k journal i).number ≤ greatest_of journal
