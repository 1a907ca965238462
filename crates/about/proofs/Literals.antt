-- Every row as the papers have it: saddv and uaddv write 64 bits, saddlv and uaddlv twice the width; sadalp and the long words read halves, the wide words
-- a whole lane and a half; ptrue and pfalse have no source and write a predicate. A width of 0 is a size that the row does not allow, or a source that it
-- has not.
-- Assumes nothing.
use Prim.Native.Nat.{ℕ}
use mathlib.Core.Path.{◌≡◌, refl}
use mathlib.Core.Bool.{Bool, true, false}
use mathlib.Core.List.{List, [], ◌∷◌, ◌++◌}
use Rattle.lanes.specs.Sum.{each}
use Rattle.rows.specs.Table.{row_at}
use Rattle.cores.specs.Need.{need_of}
use Rattle.about.specs.About.{About}
use Rattle.about.specs.About.{row_told, about_answer, no_about}

-- a row that is told: signed, g, m, q, reads its destination, its need, the bytes of n, of m and of d at sizes 0 to 3, n, a pattern, writes a predicate
abbrev pub told : Bool → Bool → Bool → Bool → Bool → ℕ → List ℕ → List ℕ → List ℕ → Bool → Bool → Bool → About
told signed g m q reads need n-bytes m-bytes d-bytes n pattern writes =
    record {
      number = 0;
      signed = signed;
      has_g = g;
      has_m = m;
      has_q = q;
      reads_destination = reads;
      need = need;
      n_bytes = n-bytes;
      m_bytes = m-bytes;
      d_bytes = d-bytes;
      has_n = n;
      has_pattern = pattern;
      writes_predicate = writes;
    }

-- a word that writes a vector: it has a source and no pattern
abbrev pub vector : Bool → Bool → Bool → Bool → Bool → ℕ → List ℕ → List ℕ → List ℕ → About
vector signed g m q reads need n-bytes m-bytes d-bytes = told signed g m q reads need n-bytes m-bytes d-bytes true false false

abbrev pub none : List ℕ
none = 0 ∷ 0 ∷ 0 ∷ 0 ∷ []

-- widths of sizes 0 to 3, and of sizes 1 to 3: whole, and halves
abbrev pub whole : List ℕ
whole = 1 ∷ 2 ∷ 4 ∷ 8 ∷ []

abbrev pub lanes_from1 : List ℕ
lanes_from1 = 0 ∷ 2 ∷ 4 ∷ 8 ∷ []

abbrev pub halves : List ℕ
halves = 0 ∷ 1 ∷ 2 ∷ 4 ∷ []

-- a word that pairs, a long one and a wide one, by their sign
abbrev pub pairs : Bool → About
pairs signed = vector signed true false false true 10 halves none lanes_from1

abbrev pub long : Bool → About
long signed = vector signed false true false false 10 halves halves lanes_from1

abbrev pub wide : Bool → About
wide signed = vector signed false true false false 10 lanes_from1 halves lanes_from1

-- a word that makes a predicate: by whether it has a pattern, and the bytes of the lanes that a bit of it governs
abbrev pub predicate : Bool → List ℕ → About
predicate pattern d-bytes = told false false false false false 9 none none d-bytes false pattern true

-- four words: signed bottom and top, unsigned bottom and top
abbrev pub four : (Bool → About) → List About
four about = about true ∷ about true ∷ about false ∷ about false ∷ []

-- saddv, uaddv, addqv, saddlv, uaddlv, sadalp, uadalp; then saddl, ssubl, saddw and ssubw with their mates; ptrue, pfalse; and past the last RANGE
pub rows_literal : each about_answer 0 26
    ≡ vector true true false false false 9 (1 ∷ 2 ∷ 4 ∷ 0 ∷ []) none (8 ∷ 8 ∷ 8 ∷ 0 ∷ [])
    ∷ vector false true false false false 9 whole none (8 ∷ 8 ∷ 8 ∷ 8 ∷ [])
    ∷ vector false true false false false 20 whole none whole
    ∷ vector true false false true false 0 (1 ∷ 2 ∷ 4 ∷ 0 ∷ []) none (2 ∷ 4 ∷ 8 ∷ 0 ∷ [])
    ∷ vector false false false true false 0 (1 ∷ 2 ∷ 4 ∷ 0 ∷ []) none (2 ∷ 4 ∷ 8 ∷ 0 ∷ [])
    ∷ pairs true
    ∷ pairs false
    ∷ (four long ++ four long ++ four wide ++ four wide ++ predicate true whole ∷ predicate false (1 ∷ 0 ∷ 0 ∷ 0 ∷ []) ∷ no_about 13 ∷ [])
unfolding row_told row_at need_of
rows_literal = refl
