-- What a step and a step back answer, and what they leave in every lent buffer, for every input.
use Rattle.std.specs.Prelude.{ℕ, ◌+◌, ◌*◌, ◌≡◌, not, List, [], ◌∷◌, ◌++◌}
use Rattle.machine.specs.Refusal.{Test, test, test_at, JOURNAL, UNDEFINED, FULL}
use Rattle.registers.specs.Register.{entry_number}
use Rattle.programs.specs.Word.{word_at}
use Rattle.words.specs.Decode.{decoded, fields_of, word_tests}
use Rattle.words.specs.declared.Fields.{Fields}
use Rattle.words.specs.Decode.{Decoded}
use Rattle.cores.specs.Core.{decoded_on}
use Rattle.meaning.specs.Execute.{target_of, executed}
use Rattle.entries.specs.Layout.{position_of, may_name, is_full, last_entry, pushed, popped}
use Rattle.entries.specs.Restored.{entry_of, restored}
use Rattle.journal.specs.Left.{Core, Buffers, buffers_of, BytesIn, Left, left_with, leaving}
use Rattle.journal.specs.Calls.{start_tests, back_tests}

-- the word at the position, and its fields
abbrev pub word_now : List ℕ → List ℕ → ℕ
word_now program journal = word_at program (position_of journal)

abbrev pub fields_now : List ℕ → List ℕ → Fields
fields_now program journal = fields_of (decoded (word_now program journal))

-- the test of the register that a word writes: no entry of the journal may name it; JOURNAL has here a place between UNDEFINED and FULL
abbrev pub named_tests : Fields → List ℕ → List Test
named_tests f journal = test_at (10 * UNDEFINED + 5) JOURNAL (not (may_name (entry_number (target_of f)) journal)) ∷ []

-- the test of the room for an entry: no further one fits
abbrev pub full_tests : ℕ → List ℕ → List Test
full_tests k journal = test FULL (is_full k journal) ∷ []

-- the tests of a step past its word
abbrev pub past_tests : ℕ → Fields → List ℕ → List Test
past_tests k f journal = named_tests f journal ++ full_tests k journal

-- the tests of a step, by what its word decodes to
abbrev pub tests_by : ℕ → List ℕ → Buffers → Decoded → List Test
tests_by k program b d = start_tests k program b ++ word_tests d ++ past_tests k (fields_of d) b.journal

-- the tests of a step on a core, which accepts or refuses its word
abbrev pub step_tests : Core → List ℕ → Buffers → List Test
step_tests c program b = tests_by c.k program b (decoded_on c.facts (word_now program b.journal))

-- a word carried out: executed, and the entry of the register that it writes appended
abbrev pub carried_out : ℕ → Fields → Buffers → Buffers
carried_out k f b = buffers_of (executed f k b.files) (pushed k (entry_of k (target_of f) b.files) b.journal)

-- the last entry taken back: its bytes in their register, and the journal without it
abbrev pub taken_back : ℕ → Buffers → Buffers
taken_back k b = buffers_of (restored k (last_entry k b.journal) b.files) (popped k b.journal)

-- what a step leaves, by what its word decodes to
abbrev pub step_by : ℕ → List ℕ → Buffers → Decoded → Left Buffers
step_by k program b d = leaving (tests_by k program b d) (carried_out k (fields_now program b.journal) b) b

-- what a step leaves on a core
unfoldable pub stepped : Core → List ℕ → Buffers → Left Buffers
stepped c program b = step_by c.k program b (decoded_on c.facts (word_now program b.journal))

-- what a step past its word leaves, which only the name of its entry and the room for it refuse
unfoldable pub performed : ℕ → Fields → Buffers → Left Buffers
performed k f b = leaving (past_tests k f b.journal) (carried_out k f b) b

-- what a step back leaves
unfoldable pub backed : ℕ → Buffers → Left Buffers
backed k b = leaving (back_tests k b) (taken_back k b) b

-- the contract of a step: what it answered, and the buffers as they are afterwards, is what it leaves; and it was lent bytes
pub record Stepped (c : Core) (program : List ℕ) (b : Buffers) (r : ℕ) (after : Buffers) : Type 0 where
  pub leaves : left_with r after ≡ stepped c program b
  pub bytes : BytesIn b

-- the contract of a step back: what it answered, and the buffers as they are afterwards, is what it leaves; and it was lent bytes
pub record Backed (k : ℕ) (b : Buffers) (r : ℕ) (after : Buffers) : Type 0 where
  pub leaves : left_with r after ≡ backed k b
  pub bytes : BytesIn b

-- the contract of a step past its word
abbrev pub Performed : ℕ → Fields → Buffers → ℕ → Buffers → Type 0
Performed k f b r after = left_with r after ≡ performed k f b
