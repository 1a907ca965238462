-- `pattern_named` meets its contract: the first pattern whose text it is, of them all, is the one that the definition finds.
-- Assumes nothing.
use Rattle.std.proofs.Common.{◌∙◌, refl, sym, rules, tests}
use Rattle.std.proofs.lemmas.Iterator.{YieldsList-from_range}
use Rattle.std.proofs.lemmas.Iterator.Adapters.{option_map_id}
use Rattle.std.proofs.lemmas.Iterator.Search.{find_from_yields_List}
use Rattle.parts.specs.Part.{same_bytes}
use Rattle.patterns.specs.Text.{patterns, pattern_text}
use Rattle.patterns.proofs.Texts.{pattern_sought}
use Rattle.patterns.proofs.pattern_named.Goals as goal

pub returns : goal.returns
returns c =
    let first =
    find_from_yields_List (λ pattern. same_bytes (pattern_text pattern) c.args.text.now) _ _ c.find.result c.find.ensures.ran
    (YieldsList-from_range 0 patterns _ refl refl)
    (λ x b q k. search (rules, tests)) in
    sym (option_map_id c.find.result) ∙ first ∙ pattern_sought _
