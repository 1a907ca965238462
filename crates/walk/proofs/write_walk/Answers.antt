-- In room for the longest output nothing is refused, so the answer's value is the output's length.
use Rattle.std.proofs.Common.{sym, ◌∙◌, subst}
use Rattle.digits.specs.Put.{Put}
use Rattle.machine.specs.Refusal.{answer_of}
use Rattle.machine.proofs.Codes.{answer_value}
use Rattle.walks.proofs.Whole.{output_put}
use Rattle.walk.proofs.write_walk.Goals as goal

pub returns-clause-put : goal.returns-clause-put
returns-clause-put c =
    subst (Put _ _ _ _) (answer_value c.write_output.result ∙ sym c.unwrap_or.ensures)
    (output_put _ _ _ (answer_of c.write_output.result) c.requires c.write_output.ensures)
