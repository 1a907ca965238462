-- `read_body` meets its contract: past the tests of its numbers a body's sizes are those of a legal length.
-- Assumes nothing.
use Rattle.std.proofs.Common.{ℕ, Bool, ◌≡◌, ◌≤◌, true, sym, arith}
use Rattle.machine.specs.Size.{most_length, most_words}
use Rattle.machine.proofs.Checks.{legal_most}
use Rattle.session.specs.Body.{files_place, is_sized}
use Rattle.session.specs.Layout.{length_at, most_header}
use Rattle.session.proofs.Bodies.{sized, files_most}
use Rattle.session.proofs.read_body.Goals as goal

small : (start files k count : ℕ) (told : Bool) → start ≤ length_at → files ≡ files_place start told → true ≡ is_sized k count
    → (files ≤ most_header) × (k ≤ most_length) × (count ≤ most_words)
small start files k count told low at is =
    let s = sized k count (sym is) in
    (omega (arith, files_most start told), legal_most k s.legal, s.few)

pub end_of-requires : goal.end_of-requires
end_of-requires c =
    let s =
    small c.args.start c.files_place-files.result c.number_at-k.result c.number_at-count.result c.args.told
    c.requires c.files_place-files.ensures c.if-not-is_sized.ensures in
    (omega (arith, s.0), omega (arith, s.2))

pub placed-requires : goal.placed-requires
placed-requires c =
    let s = small _ _ c.number_at-k.result _ _ c.requires c.files_place-files.ensures c.if-not-is_sized.ensures in
    (s.0, s.2)
