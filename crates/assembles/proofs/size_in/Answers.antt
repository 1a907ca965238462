-- `size_in` meets its contract: the place past the last size stands for none.
-- Assumes nothing.
use Rattle.parts.proofs.Found.{found_taken}
use Rattle.scans.proofs.Scan.{size_in_within}
use Rattle.assembles.proofs.size_in.Goals as goal

pub returns : goal.returns
returns c = found_taken _ _ (size_in_within c.args.text.now c.args.k) c.size_in.ensures c.unwrap_or.ensures
