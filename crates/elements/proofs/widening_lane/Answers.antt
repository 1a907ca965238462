-- The wrapping difference of two integers' digits is that of their difference.
use Rattle.std.proofs.Common.{[], arith}
use Rattle.lanes.proofs.Sums.{residue_less}
use Rattle.meaning.specs.Terms.{Operands, Operand2, element_of, half_term, first_term}
use Rattle.elements.proofs.widening_lane.Goals as goal

pub returns-then-parameters : goal.returns-then-parameters
returns-then-parameters c =
    let a = c.args in
    let operands : Operands = record { operand1 = a.n.now; operand2 = a.m.now; old = [] } in
    rw c.if-parameters.true
    (residue_less 64 (element_of operands (first_term a.parameters a.w a.e)) (element_of operands (half_term Operand2 a.parameters a.w a.e)) _ (omega arith)
    (omega (arith, c.first_element-first.ensures, c.half_at-second.ensures)))
