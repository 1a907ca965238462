-- `past_space` meets its contract: the first space of what is there from a place on is at the place that the search finds.
-- Assumes nothing.
use Rattle.std.proofs.Common.{◌∙◌, rules, tests}
use Rattle.std.proofs.lemmas.Iterator.{YieldsList-from_slice}
use Rattle.std.proofs.lemmas.Iterator.Search.{position_from_yields_List}
use Rattle.scans.proofs.Scan.{is_space, past_here, past_end, rest_of}
use Rattle.scans.proofs.past_space.Goals as goal

pub returns-in-Some : goal.returns-in-Some
returns-in-Some c =
    let l = c.args.text.now in
    past_here l c.args.from c.requires c.in-Some.k
    (position_from_yields_List is_space _ _ _ c.in-Some.ensures.ran (YieldsList-from_slice _ (c.iter.ensures.rest ∙ rest_of l c.args.from c.requires)) (λ x b q k. search (rules, tests)))

pub returns-in-None : goal.returns-in-None
returns-in-None c =
    let l = c.args.text.now in
    past_end l c.args.from c.requires
    (position_from_yields_List is_space _ _ _ c.in-None.ensures.ran (YieldsList-from_slice _ (c.iter.ensures.rest ∙ rest_of l c.args.from c.requires)) (λ x b q k. search (rules, tests)))
