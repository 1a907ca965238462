-- Each turn writes one lane more, and after the last the word is executed.
use Rattle.std.proofs.Common.{◌∙◌, arith}
use Rattle.widens.proofs.InPlace.{turn_done, all_done}
use Rattle.widens.proofs.write_turns.Goals as goal

pub loop-e-preserved : goal.loop-e-preserved
loop-e-preserved c =
    c.write_turn.ensures ∙ turn_done _ _ _ _ _ _ _ c.requires c.register_bytes.ensures _ _ c.loop-e.invariant c.loop-e-test.true

pub returns : goal.returns
returns c = all_done _ _ _ _ _ _ _ c.requires c.register_bytes.ensures _ _ c.loop-e.invariant (omega arith)
