-- `is_text_of` meets its contract: the pattern's text, which five bytes hold, is written and compared.
-- Assumes nothing.
use Rattle.std.proofs.Common.{sym, arith}
use lib.Seq.{length-take-le}
use Rattle.digits.proofs.Puts.{put_front}
use Rattle.patterns.proofs.Texts.{text_short}
use Rattle.patterns.proofs.is_text_of.Goals as goal

pub put_pattern-count-requires : goal.put_pattern-count-requires
put_pattern-count-requires c = omega (arith, text_short c.args.pattern c.requires)

-- the text that is written is within the five bytes
pub slice_bounds-name-end : goal.slice_bounds-name-end
slice_bounds-name-end c = omega (arith, c.put_pattern-count.ensures.after, text_short c.args.pattern c.requires)

pub slice_bounds-same_bytes-end : goal.slice_bounds-same_bytes-end
slice_bounds-same_bytes-end c =
    sym (length-take-le _ _ (omega (arith, c.put_pattern-count.ensures.after, text_short c.args.pattern c.requires)))

pub returns : goal.returns
returns c =
    let front = put_front (text_short c.args.pattern c.requires) c.put_pattern-count.ensures in
    rw front at c.same_bytes.ensures
