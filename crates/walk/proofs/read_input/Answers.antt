-- What a read gives stands after what was read before.
use Rattle.std.proofs.Common.{◌≡◌, ℕ, ◌+◌, ◌-◌, ◌≤◌, List, ◌++◌, rules, length, take, sym, ap, ◌∙◌, subst, length-take-le}
use Rattle.std.proofs.lemmas.List.{take-append-le}
use Rattle.std.proofs.Math.Seq.{take-append-add}
use borrow.Rule.Slice.PartMut.{put_mid, post_of}
use Rattle.std.specs.Io.KnownBytes.{Consumes}
use Rattle.std.proofs.KnownBytes.{Consumes-trans}
use Rattle.walk.proofs.read_input.Goals as goal

-- the front and n bytes of a part that was read after it
joined : (a k n : ℕ) (xs ys : List ℕ) → a ≤ length xs → n ≤ length ys → take a xs ++ take n ys ≡ take (a + n) (put_mid a k xs ys)
joined a k n xs ys within fits =
    let front = take a xs in
    let rest = ys ++ post_of a k xs in
    sym
    (ap (λ (m : ℕ). take (m + n) (front ++ rest)) (sym (length-take-le a xs within))
    ∙ take-append-add front rest n
    ∙ ap (λ (l : List ℕ). front ++ l) (take-append-le n ys (post_of a k xs) fits))

pub loop-count-preserved : goal.loop-count-preserved
loop-count-preserved g c =
    let count = c.loop-count.count in
    let room = length c.loop-count.input - count in
    let same =
    joined count room c.in_ok-more.more c.loop-count.input c.read.new.buf c.loop-count.invariant.0
    c.in_ok-more.ensures.bound.0 in
    (search rules, subst (Consumes _ _) same (Consumes-trans _ _ _ _ _ c.loop-count.invariant.1 c.in_ok-more.ensures.bytes.0))
