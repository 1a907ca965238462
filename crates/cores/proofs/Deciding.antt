-- What decides whether a core takes a word, by the request's words: each need is had exactly where one of its two facts is true; and words of the
-- paper's table, a column each, answered under bytes of facts, a line each: without any fact, with one alone, and with all but the two of a need.
-- Assumes nothing.
use Prim.Native.Nat.{ℕ}
use mathlib.Core.Path.{◌≡◌, refl}
use mathlib.Core.Bool.{Bool, true, false}
use mathlib.Core.Logic.{◌↔◌, ◌⊎◌, inl, inr}
use mathlib.Core.List.{List, [], ◌∷◌, map}
use Rattle.facts.specs.Facts.{facts_of}
use Rattle.facts.specs.declared.Facts.{Facts}
use Rattle.rows.specs.Digits.{digits_and}
use Rattle.rows.specs.Table.{row_at, row_of, matches, place_from}
use Rattle.words.specs.Decode.{decoded, number_of}
use Rattle.cores.specs.declared.Need.TheVariants.{Nothing, SveOrSme, Sve2OrSme, Sve2p1OrSme2p1}
use Rattle.cores.specs.Need.{either, has, need_of}
use Rattle.cores.specs.Core.{decoded_on}

-- either of two tests holds exactly where one of them does
either_exactly : (a b : Bool) → either a b ≡ true ↔ ((a ≡ true) ⊎ (b ≡ true))
either_exactly true b = (λ e. inl refl, λ h. refl)
either_exactly false b = (λ e. inr e, back)
  where
    back : (false ≡ true) ⊎ (b ≡ true) → b ≡ true
    back (inl e) = cc
    back (inr e) = e

-- each need by its facts
module _ (f : Facts) where
  pub has_nothing : has f Nothing ≡ true
  has_nothing = refl

  pub has_sve_or_sme : has f SveOrSme ≡ true ↔ ((f.sve ≡ true) ⊎ (f.sme ≡ true))
  has_sve_or_sme = either_exactly f.sve f.sme

  pub has_sve2_or_sme : has f Sve2OrSme ≡ true ↔ ((f.sve2 ≡ true) ⊎ (f.sme ≡ true))
  has_sve2_or_sme = either_exactly f.sve2 f.sme

  pub has_sve2p1_or_sme2p1 : has f Sve2p1OrSme2p1 ≡ true ↔ ((f.sve2p1 ≡ true) ⊎ (f.sme2p1 ≡ true))
  has_sve2p1_or_sme2p1 = either_exactly f.sve2p1 f.sme2p1

-- what each of some words is answered under a byte of facts
abbrev pub answers_on : List ℕ → ℕ → List ℕ
answers_on words byte = map (λ (word : ℕ). number_of (decoded_on (facts_of byte) word)) words

-- saddv, uaddv, addqv, saddlv, uaddlv, sadalp, saddlb, ptrue, pfalse: none of the facts; SVE; SVE2; SVE2p1; SME; SME2p1; all but SVE and SME; all but SVE2 and
-- SME; all but SVE2p1 and SME2p1; all
pub deciding_facts : map (answers_on (0x04002020 ∷ 0x04012020 ∷ 0x04052020 ∷ 0x0E303822 ∷ 0x2E303822 ∷ 0x4444A020 ∷ 0x45410023 ∷ 0x2518E3E0 ∷ 0x2518E400 ∷ []))
    (0 ∷ 1 ∷ 2 ∷ 4 ∷ 8 ∷ 16 ∷ 22 ∷ 21 ∷ 11 ∷ 31 ∷ [])
    ≡ (8 ∷ 8 ∷ 8 ∷ 0 ∷ 0 ∷ 8 ∷ 8 ∷ 8 ∷ 8 ∷ [])
    ∷ (0 ∷ 0 ∷ 8 ∷ 0 ∷ 0 ∷ 8 ∷ 8 ∷ 0 ∷ 0 ∷ [])
    ∷ (8 ∷ 8 ∷ 8 ∷ 0 ∷ 0 ∷ 0 ∷ 0 ∷ 8 ∷ 8 ∷ [])
    ∷ (8 ∷ 8 ∷ 0 ∷ 0 ∷ 0 ∷ 8 ∷ 8 ∷ 8 ∷ 8 ∷ [])
    ∷ (0 ∷ 0 ∷ 8 ∷ 0 ∷ 0 ∷ 0 ∷ 0 ∷ 0 ∷ 0 ∷ [])
    ∷ (8 ∷ 8 ∷ 0 ∷ 0 ∷ 0 ∷ 8 ∷ 8 ∷ 8 ∷ 8 ∷ [])
    ∷ (8 ∷ 8 ∷ 0 ∷ 0 ∷ 0 ∷ 0 ∷ 0 ∷ 8 ∷ 8 ∷ [])
    ∷ (0 ∷ 0 ∷ 0 ∷ 0 ∷ 0 ∷ 8 ∷ 8 ∷ 0 ∷ 0 ∷ [])
    ∷ (0 ∷ 0 ∷ 8 ∷ 0 ∷ 0 ∷ 0 ∷ 0 ∷ 0 ∷ 0 ∷ [])
    ∷ (0 ∷ 0 ∷ 0 ∷ 0 ∷ 0 ∷ 0 ∷ 0 ∷ 0 ∷ 0 ∷ [])
    ∷ []
unfolding facts_of decoded_on decoded row_at row_of place_from matches digits_and need_of
deciding_facts = refl
