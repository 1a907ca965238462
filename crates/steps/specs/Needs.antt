-- What the code on a word and a journal asks of its caller.
use Rattle.std.specs.Prelude.{ℕ, ◌<◌, ◌≡◌}
use Rattle.machine.specs.Size.{most_words}
use Rattle.words.specs.declared.Fields.{Fields}
use Rattle.registers.specs.declared.Kind.{Kind}
use Rattle.registers.specs.State.{contents}
use Rattle.rows.specs.Table.{family_of}
use Rattle.meaning.specs.Execute.{kind_written}
use Rattle.meaning.specs.Needs.{Executable}
use Rattle.entries.specs.Layout.{position_of}
use Rattle.entries.specs.Formed.{Formed}
use Rattle.appends.specs.Needs.{Append}
use Rattle.journal.specs.Left.{Buffers}

-- a word that executes, and a well-formed journal with the position of a word
pub record Ready (k : ℕ) (f : Fields) (b : Buffers) : Type 0 where
  pub word : Executable f k b.files
  pub formed : Formed k b.journal
  pub few : position_of b.journal < most_words

-- a word that executes, the kind of register that it writes, and a journal that has room for that register's entry
pub record CarryOut (k : ℕ) (kind : Kind) (f : Fields) (b : Buffers) : Type 0 where
  pub word : Executable f k b.files
  pub writes : kind ≡ kind_written (family_of f.row)
  pub room : Append k kind f.d (contents kind b.files) b.journal
