-- `pattern_in` meets its contract: the place past the last pattern stands for none.
-- Assumes nothing.
use Rattle.parts.proofs.Found.{found_taken}
use Rattle.patterns.proofs.Texts.{named_bounded}
use Rattle.assembles.proofs.pattern_in.Goals as goal

pub returns : goal.returns
returns c = found_taken _ _ (named_bounded c.args.text.now) c.pattern_named.ensures c.unwrap_or.ensures
