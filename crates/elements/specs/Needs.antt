-- What the code that makes a lane asks of its caller: elements that lie within registers.
use Rattle.std.specs.Prelude.{◌≡◌, ℕ, ◌+◌, ◌*◌, ◌/◌, ◌<◌, ◌≤◌, List, length}

-- half elements 2e and 2e + 1 of a register lie in lane e, which has w bytes
pub record HalfLanes (w e : ℕ) (operand : List ℕ) : Type 0 where
  pub some : 0 < w
  pub most : w ≤ 8
  pub halves : w / 2 * 2 ≡ w
  pub inside : e * w + w ≤ length operand
