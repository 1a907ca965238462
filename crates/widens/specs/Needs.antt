-- What the code that writes every lane asks of its caller: a word with its parameters and its width.
use Rattle.std.specs.Prelude.{ℕ, ◌/◌, ◌<◌, ◌≡◌}
use Rattle.machine.specs.Size.{vector_bytes}
use Rattle.registers.specs.State.{State}
use Rattle.lanes.specs.Lane.{width_of}
use Rattle.rows.specs.Table.{form_of}
use Rattle.words.specs.declared.Fields.{Fields}
use Rattle.rows.specs.declared.Family.TheVariants.{Wide}
use Rattle.rows.specs.declared.WideFamily.{WideFamily}
use Rattle.rows.specs.declared.Parameters.{Parameters}
use Rattle.meaning.specs.Needs.{ExecutableAs}

-- a word whose family writes every lane, with its parameters and its width at hand
pub record WideLanes (wide : WideFamily) (ps : Parameters) (w : ℕ) (f : Fields) (k : ℕ) (s : State) : Type 0 where
  pub word : ExecutableAs (Wide wide) f k s
  pub parameters : ps ≡ (form_of f.row).parameters
  pub width : w ≡ width_of f.size

-- and lane e of its destination
pub record WideTurn (wide : WideFamily) (ps : Parameters) (w e : ℕ) (f : Fields) (k : ℕ) (s : State) : Type 0 where
  pub lanes : WideLanes wide ps w f k s
  pub inside : e < vector_bytes k / width_of f.size
