-- `byte_from_end` meets its contract: the test is that of the definition.
-- Assumes nothing.
use Rattle.std.proofs.Common.{sym, ◌∙◌}
use borrow.Author.Tests.{le-leb, lt-leb}
use Rattle.scans.specs.Scanned.{from_end}
use Rattle.scans.proofs.byte_from_end.Goals as goal

pub returns-then-k-text : goal.returns-then-k-text
unfolding from_end
returns-then-k-text c = c.byte_at.ensures ∙ sym (rw (le-leb _ _ c.if-k-text.true))

pub returns-else-k-text : goal.returns-else-k-text
unfolding from_end
returns-else-k-text c = sym (rw (lt-leb _ _ c.if-k-text.false))
