-- `put_fresh` meets its contract: a cleared journal with the heading written over its front is a fresh one.
use Rattle.std.proofs.Common.{ℕ, List, ◌≡◌, ◌≤◌, sym, ◌∙◌, length, replicate, arith}
use Rattle.parts.specs.Part.{with_part}
use Rattle.parts.proofs.Numbers.{drop_replicate}
use Rattle.entries.specs.Layout.{count_at, heading, layout_of, fresh_journal}
use Rattle.entries.proofs.Versions.{header_least}
use Rattle.entries.proofs.Closed.{fresh_is}
use Rattle.appends.proofs.put_fresh.Goals as goal

-- the heading written over the front of zeros
fresh_bytes : (version k n : ℕ) (head cleared journal : List ℕ) → (layout_of version).header ≤ n → head ≡ heading version k → cleared ≡ replicate n 0
    → journal ≡ with_part 0 (length head) head cleared
    → journal ≡ fresh_journal version k n
fresh_bytes version k n head cleared journal h named zeroed is = is ∙ rw (named, zeroed, drop_replicate count_at n 0) (sym (fresh_is version k n h))

pub overwrite-requires : goal.overwrite-requires
overwrite-requires c =
    let long : length c.heading-heading.result ≡ count_at = rw c.heading-heading.ensures in
    omega (arith, long, header_least c.args.version, c.requires)

pub returns : goal.returns
returns c =
    let a = c.args in
    fresh_bytes a.version a.k.units (length a.journal.now) _ _ _ c.requires c.heading-heading.ensures c.clear.ensures c.overwrite.ensures
