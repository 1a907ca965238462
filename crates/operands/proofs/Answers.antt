-- The contract of the call without a `requires` allows one result.
-- Assumes nothing.
use mathlib.Core.Path.{◌≡◌}
use Rattle.machine.proofs.Tests.{one_result}
use Rattle.rows.specs.declared.Family.{Family}
use Rattle.words.specs.declared.Fields.{Fields}
use Rattle.operands.specs.declared.Operand.{Operand}
use Rattle.operands.specs.Operands.{governing_operand}

pub governing_determined : (family : Family) (f : Fields) (r s : Operand) → r ≡ governing_operand family f → s ≡ governing_operand family f → r ≡ s
governing_determined family f = one_result (governing_operand family f)
