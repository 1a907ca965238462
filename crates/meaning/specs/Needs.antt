-- What the code that executes a word asks of its caller: the word's fields, a legal length and files of its sizes, and the word's family.
use Rattle.std.specs.Prelude.{ℕ, ◌≡◌}
use Rattle.registers.specs.State.{State, Sized}
use Rattle.rows.specs.Table.{family_of}
use Rattle.words.specs.Encode.{InRange}
use Rattle.words.specs.declared.Fields.{Fields}
use Rattle.rows.specs.declared.Family.{Family}

-- a word's fields, a legal length and a state of its sizes
pub record Executable (f : Fields) (k : ℕ) (s : State) : Type 0 where
  pub lent : Sized k s
  pub fields : InRange f

-- such a word of a family
pub record ExecutableAs (family : Family) (f : Fields) (k : ℕ) (s : State) : Type 0 where
  pub word : Executable f k s
  pub is : family_of f.row ≡ family
