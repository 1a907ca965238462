-- What the code of the low families asks of its caller beside the word: a register that has the low bytes.
use Rattle.std.specs.Prelude.{ℕ, ◌≤◌, ◌<◌, List, length}
use Rattle.machine.specs.Size.{segment_bytes}

-- lanes of 1 to 8 bytes in the front of a register
pub record LongFront (w q : ℕ) (n : List ℕ) : Type 0 where
  pub least : 1 ≤ w
  pub most : w ≤ 8
  pub low : q < 2
  pub one : segment_bytes ≤ length n
