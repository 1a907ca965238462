-- The needs: of each row, computed against the request's sentence; all facts have every need, and more facts have what fewer had.
-- Assumes nothing.
use Prim.Native.Nat.{ℕ, zero, suc, ◌≤◌, ◌<◌}
use native.Mathlib.Omega.{arith}
use mathlib.Core.Path.{◌≡◌, refl}
use mathlib.Core.Bool.{Bool, true, false}
use mathlib.Core.Logic.{◌⊎◌, inl, inr}
use mathlib.Core.List.{[], ◌∷◌, ◌++◌, map}
use lib.Dec.{ltb}
use lib.ListN.{replicate}
use borrow.Author.Tests.{le-ltb}
use Rattle.facts.specs.Facts.{all_facts, no_facts, Implies, Among}
use Rattle.facts.specs.declared.Facts.{Facts}
use Rattle.rows.specs.Table.{table, row_at, line_form}
use Rattle.rows.proofs.Every.{every, at_each}
use Rattle.rows.specs.declared.Row.{Row}
use Rattle.cores.specs.declared.Need.{Need}
use Rattle.cores.specs.declared.Need.TheVariants.{Nothing, SveOrSme, Sve2OrSme, Sve2p1OrSme2p1}
use Rattle.cores.specs.Need.{either, has, need_for, need_of}

-- saddv and uaddv need SVE or SME, addqv SVE2p1 or SME2p1, saddlv and uaddlv nothing, the eighteen after them SVE2 or SME, ptrue and pfalse SVE or SME
pub row_needs : map (λ (line : Row). need_for (line_form line).family) table
    ≡ (SveOrSme ∷ SveOrSme ∷ Sve2p1OrSme2p1 ∷ Nothing ∷ Nothing ∷ []) ++ replicate 18 Sve2OrSme ++ replicate 2 SveOrSme
row_needs = refl

-- by the row's place: the first two, the next, the two after it, those up to the last two, and these
pub need_first : (i : ℕ) → i < 2 → need_of i ≡ SveOrSme
unfolding need_of row_at
need_first zero h = refl
need_first (suc zero) h = refl
need_first (suc (suc i)) h = absurd (omega arith)

pub need_next : (i : ℕ) → i ≡ 2 → need_of i ≡ Sve2p1OrSme2p1
unfolding need_of row_at
need_next i e = rw e refl

pub need_across : (i : ℕ) → 2 < i → i < 5 → need_of i ≡ Nothing
unfolding need_of row_at
need_across zero low high = absurd (omega arith)
need_across (suc zero) low high = absurd (omega arith)
need_across (suc (suc zero)) low high = absurd (omega arith)
need_across (suc (suc (suc zero))) low high = refl
need_across (suc (suc (suc (suc zero)))) low high = refl
need_across (suc (suc (suc (suc (suc i))))) low high = absurd (omega arith)

-- whether a need is that of SVE2 or SME
is_later : Need → Bool
is_later Nothing = false
is_later SveOrSme = false
is_later Sve2OrSme = true
is_later Sve2p1OrSme2p1 = false

later_needs : every 23 (λ i. either (ltb i 5) (is_later (need_of i))) ≡ true
unfolding is_later need_of row_at
later_needs = refl

pub need_later : (i : ℕ) → 5 ≤ i → i < 23 → need_of i ≡ Sve2OrSme
unfolding is_later
need_later i past h = go (need_of i) (rw (le-ltb i 5 past) at (at_each 23 (λ j. either (ltb j 5) (is_later (need_of j))) later_needs i h))
  where
    go : (need : Need) → is_later need ≡ true → need ≡ Sve2OrSme
    go Nothing e = cc
    go SveOrSme e = cc
    go Sve2OrSme e = refl
    go Sve2p1OrSme2p1 e = cc

pub need_last : (i : ℕ) → (i ≡ 23) ⊎ (i ≡ 24) → need_of i ≡ SveOrSme
unfolding need_of row_at
need_last i (inl e) = rw e refl
need_last i (inr e) = rw e refl

-- a core with every fact has every need
pub has_all : (need : Need) → has all_facts need ≡ true
has_all Nothing = refl
has_all SveOrSme = refl
has_all Sve2OrSme = refl
has_all Sve2p1OrSme2p1 = refl

-- a core with none has that of nothing alone
pub has_none : (need : Need) → has no_facts need ≡ true → need ≡ Nothing
has_none Nothing e = refl
has_none SveOrSme e = cc
has_none Sve2OrSme e = cc
has_none Sve2p1OrSme2p1 e = cc

-- either of two tests, where both come to hold more often
either_more : (a b c d : Bool) → Implies a c → Implies b d → Implies (either a b) (either c d)
either_more true b c d p q e = rw (p refl)
either_more false b true d p q e = refl
either_more false b false d p q e = q e

-- more facts have what fewer had
pub has_more : (fewer more : Facts) → Among fewer more → (need : Need) → Implies (has fewer need) (has more need)
has_more fewer more m Nothing e = refl
has_more fewer more m SveOrSme e = either_more _ _ more.sve more.sme m.sve m.sme e
has_more fewer more m Sve2OrSme e = either_more _ _ more.sve2 more.sme m.sve2 m.sme e
has_more fewer more m Sve2p1OrSme2p1 e = either_more _ _ more.sve2p1 more.sme2p1 m.sve2p1 m.sme2p1 e
