-- A word that writes every lane may write them in place, one after the other. After e lanes the vector file is the old one with the first
-- e·w bytes of the destination replaced. What feeds lane e lies in lane e of each register: behind those bytes in the destination itself,
-- and outside them in another register. So lane e is made from the same bytes as before the first write.
-- Assumes nothing.
use Prim.Native.Nat.{ℕ, ◌+◌, ◌*◌, ◌/◌, ◌≤◌, ◌<◌}
use mathlib.Core.Path.{◌≡◌, refl, sym, ◌∙◌, ap, ap₂}
use mathlib.Core.Bool.{Bool, true, false, cond}
use mathlib.Core.List.{List, ◌++◌, append_assoc}
use native.Mathlib.Nat.{add_assoc, zero-add, add-mul, one-mul, mul-le-mul_right}
use native.Mathlib.Numerals.{add-one}
use native.Mathlib.Omega.{arith}
use borrow.Author.Tests.{ltb-true, ltb-false}
use lib.Dec.{ltb}
use lib.ListN.{length, take, drop, length-append}
use lib.IntN.{ℤ}
use lib.Seq.{length-take-le, take_at}
use Rattle.machine.specs.Size.{vectors, vector_bytes}
use Rattle.machine.proofs.Places.{place_within}
use Rattle.parts.specs.Part.{part, with_part}
use Rattle.parts.specs.Number.{bytes_of, bits_of}
use Rattle.parts.proofs.Parts.{part_part, part_before, part_after, length_with, drop_with}
use Rattle.registers.specs.Register.{register_at, vector_of}
use Rattle.registers.specs.State.{State, state}
use Rattle.registers.specs.declared.Kind.TheVariants.{Vector}
use Rattle.registers.proofs.Places.{register_inside}
use Rattle.lanes.specs.Lane.{width_of, from_lanes}
use Rattle.lanes.specs.Integer.{residue}
use Rattle.lanes.specs.Sum.{element}
use Rattle.lanes.proofs.Written.{length_lanes, lanes_snoc, bytes_residue}
use Rattle.rows.specs.Table.{form_of}
use Rattle.words.specs.declared.Fields.{Fields}
use Rattle.words.proofs.Decoding.{destination_in, size_in_lem}
use Rattle.rows.specs.declared.Parameters.{Parameters}
use Rattle.rows.specs.declared.Family.TheVariants.{Wide}
use Rattle.rows.specs.declared.WideFamily.{WideFamily}
use Rattle.rows.specs.declared.WideFamily.TheVariants.{Pairwise, Widening}
use Rattle.sums.proofs.Widths.{width_legal}
use Rattle.meaning.specs.Terms.{Operands, Source, Operand1, Operand2, Old, operand_of, element_of, sum_of, selected, first_term}
use Rattle.meaning.specs.Meaning.{wide_terms}
use Rattle.meaning.specs.Execute.{kind_written, operands_of, mask_of, integer_after, lane_written, executed}
use Rattle.meaning.specs.Needs.{ExecutableAs}
use Rattle.widens.specs.Needs.{WideLanes}
use Rattle.elements.proofs.Halves.{half_taken, element_same, half_same}
use Rattle.registers.proofs.Padded.{padded_full}
use Rattle.meaning.proofs.Effects.{source_field, source_below, operand_bytes, mask_bytes, executed_vectors}
use Rattle.meaning.proofs.Sizes.{whole, wide_halves, vector_in, vector_length, vector_destination}

-- a part written right behind another is one part
with_next : (a n m : ℕ) (e g l : List ℕ) → a + n + m ≤ length l → length e ≡ n → with_part (a + n) m g (with_part a n e l) ≡ with_part a (n + m) (e ++ g) l
with_next a n m e g l fits sized =
    ap₂ (λ (front rest : List ℕ). front ++ g ++ rest) (take_at (take a l ++ e) (drop (a + n) l) (a + n) front)
    (drop_with a n e l (omega arith) sized (a + n + m) (omega arith))
    ∙ ap₂ (λ (front : List ℕ) (end : ℕ). front ++ drop end l) (append_assoc (take a l) e g) (add_assoc a n m)
  where
    front : length (take a l ++ e) ≡ a + n
    front = simp (length-append, length-take-le a l (omega arith), sized)

-- lane e lies within two registers, which have the same bytes there
record SameLane (w e : ℕ) (r t : List ℕ) : Type 0 where
  inside : e * w + w ≤ length r
  inside' : e * w + w ≤ length t
  same : part (e * w) w r ≡ part (e * w) w t

-- what feeds lane e lies in lane e of each operand
lane_only : (wide : WideFamily) (ps : Parameters) (w e : ℕ) (mask : List ℕ) (o o' : Operands) → w / 2 * 2 ≡ w
    → ((source : Source) → SameLane w e (operand_of o source) (operand_of o' source))
    → sum_of o (wide_terms wide ps w mask e) ≡ sum_of o' (wide_terms wide ps w mask e)
lane_only wide ps w e mask o o' halves at = go wide
  where
    half : (source : Source) (i : ℕ) → i ≤ 1
        → element ps.signed (w / 2) (operand_of o source) (2 * e + i) ≡ element ps.signed (w / 2) (operand_of o' source) (2 * e + i)
    half source i l =
        half_same ps.signed w e i (operand_of o source) (operand_of o' source) halves l (at source).inside (at source).inside' (at source).same

    -- the half element that a form takes, and its first element, whichever that is
    chosen : (source : Source)
        → element ps.signed (w / 2) (operand_of o source) (selected ps.top e) ≡ element ps.signed (w / 2) (operand_of o' source) (selected ps.top e)
    chosen source = half source (cond ps.top 1 0) (half_taken ps.top)

    first : element_of o (first_term ps w e) ≡ element_of o' (first_term ps w e)
    first = by ps.wide
      where
        by : (wide : Bool)
            → element ps.signed (cond wide w (w / 2)) o.operand1 (cond wide e (selected ps.top e))
            ≡ element ps.signed (cond wide w (w / 2)) o'.operand1 (cond wide e (selected ps.top e))
        by true = element_same ps.signed w e o.operand1 o'.operand1 (at Operand1).same
        by false = chosen Operand1

    go : (wide : WideFamily) → sum_of o (wide_terms wide ps w mask e) ≡ sum_of o' (wide_terms wide ps w mask e)
    go Pairwise = rw (element_same false w e o.old o'.old (at Old).same, half Operand1 0 (omega arith), half Operand1 1 (omega arith))
    go Widening = rw (first, chosen Operand2)

-- the first e lanes of a word's destination, and the vector file with them written
abbrev lanes_below : Fields → ℕ → State → ℕ → List ℕ
lanes_below f k s e = from_lanes (width_of f.size) 0 e (λ (i : ℕ). residue (bits_of (width_of f.size)) (integer_after f k s i))

abbrev pub file_after : Fields → ℕ → State → ℕ → List ℕ
file_after f k s e = with_part (register_at k Vector f.d) (e * width_of f.size) (lanes_below f k s e) s.z

module _ (wide : WideFamily) (f : Fields) (k : ℕ) (s : State) (x : ExecutableAs (Wide wide) f k s) where
  abbrev w : ℕ
  w = width_of f.size

  abbrev place : ℕ → ℕ
  place r = register_at k Vector r

  -- what feeds lane e
  fed : (t : State) (e : ℕ) → integer_after f k t e ≡ sum_of (operands_of f k t) (wide_terms wide (form_of f.row).parameters w (mask_of f k t) e)
  fed t e = rw x.is

  -- a lane of a register ends within it, and a register within the file
  pub lane_ends : (e : ℕ) → e < vector_bytes k / w → e * w + w ≤ vector_bytes k
  lane_ends e h = omega (arith, place_within e (vector_bytes k / w) w h, whole k f.size (size_in_lem x.word.fields))

  register_ends : (r : ℕ) → r < vectors → place r + vector_bytes k ≤ length s.z
  register_ends r h = register_inside k Vector r s.z (vector_in f k s x.word r h)

  module _ (e : ℕ) (some : e ≤ vector_bytes k / w) where
    fits : place f.d + e * w ≤ length s.z
    fits = omega (arith, register_ends f.d (destination_in x.word.fields), mul-le-mul_right w some, whole k f.size (size_in_lem x.word.fields))

    sized : length (lanes_below f k s e) ≡ e * w
    sized = length_lanes w 0 e _

    length_after : length (file_after f k s e) ≡ length s.z
    length_after = length_with (place f.d) (e * w) (lanes_below f k s e) s.z fits sized

    -- the files keep their sizes
    still : ExecutableAs (Wide wide) f k (state (file_after f k s e) s.p)
    still = record {
      word = record {
        lent = record { legal = x.word.lent.legal; vector_size = length_after ∙ x.word.lent.vector_size; predicate_size = x.word.lent.predicate_size };
        fields = x.word.fields;
      };
      is = x.is;
    }

  module _ (e : ℕ) (turn : e < vector_bytes k / w) where
    some : e ≤ vector_bytes k / w
    some = omega arith

    -- lane e of every register is as before the first write: it lies before the bytes that are written, or behind them
    untouched : (r : ℕ) → part (place r + e * w) w (file_after f k s e) ≡ part (place r + e * w) w s.z
    untouched r = go (ltb r f.d) refl
      where
        go : (t : Bool) → ltb r f.d ≡ t → part (place r + e * w) w (file_after f k s e) ≡ part (place r + e * w) w s.z
        go true h =
            part_before (place f.d) (e * w) (lanes_below f k s e) s.z (fits e some) (sized e some) (place r + e * w) w
            (omega (arith, place_within r f.d (vector_bytes k) (ltb-true r f.d h), lane_ends e turn))
        go false h =
            part_after (place f.d) (e * w) (lanes_below f k s e) s.z (fits e some) (sized e some) (place r + e * w) w
            (omega (arith, mul-le-mul_right (vector_bytes k) (ltb-false r f.d h)))

    reads : (r : ℕ) → r < vectors → SameLane w e (vector_of k r (file_after f k s e)) (vector_of k r s.z)
    reads r h =
        record {
          inside = rw (vector_length f k (state (file_after f k s e) s.p) (still e some).word r h) (lane_ends e turn);
          inside' = rw (vector_length f k s x.word r h) (lane_ends e turn);
          same =
              part_part (place r) (vector_bytes k) (e * w) w (file_after f k s e) (omega (arith, register_ends r h, length_after e some)) (lane_ends e turn)
              ∙ untouched r
              ∙ sym (part_part (place r) (vector_bytes k) (e * w) w s.z (register_ends r h) (lane_ends e turn));
        }

    operand : (source : Source) → SameLane w e (operand_of (operands_of f k (state (file_after f k s e) s.p)) source) (operand_of (operands_of f k s) source)
    operand source =
        rw (operand_bytes f k (state (file_after f k s e) s.p) source, operand_bytes f k s source)
        (reads (source_field f source) (source_below f k s x.word source))

    -- so it is fed by the same
    same_integer : integer_after f k (state (file_after f k s e) s.p) e ≡ integer_after f k s e
    same_integer =
        fed (state (file_after f k s e) s.p) e
        ∙ ap (λ (mask : List ℕ). sum_of (operands_of f k (state (file_after f k s e) s.p)) (wide_terms wide (form_of f.row).parameters w mask e))
        (mask_bytes f k (state (file_after f k s e) s.p) ∙ sym (mask_bytes f k s))
        ∙ lane_only wide (form_of f.row).parameters w e (mask_of f k s) (operands_of f k (state (file_after f k s e) s.p)) (operands_of f k s)
        (wide_halves f k s x.word wide x.is)
        operand
        ∙ sym (fed s e)

    -- lane e written in that file makes one lane more
    after_next : (z : List ℕ) → z ≡ file_after f k s e → lane_written f k e (state z s.p) ≡ file_after f k s (e + 1)
    after_next z is =
        rw is
        (with_next (place f.d) (e * w) w (lanes_below f k s e) (bytes_of w (residue 64 (integer_after f k (state (file_after f k s e) s.p) e))) s.z
        (omega (arith, register_ends f.d (destination_in x.word.fields), lane_ends e turn))
        (sized e some)
        ∙ ap₂ (λ (n : ℕ) (lanes : List ℕ). with_part (place f.d) n lanes s.z) wider longer)
      where
        wider : e * w + w ≡ (e + 1) * w
        wider = omega (arith, add-mul e 1 w, one-mul w)

        longer : lanes_below f k s e ++ bytes_of w (residue 64 (integer_after f k (state (file_after f k s e) s.p) e)) ≡ lanes_below f k s (e + 1)
        longer =
            ap (λ (bytes : List ℕ). lanes_below f k s e ++ bytes)
            (ap (λ (z : ℤ). bytes_of w (residue 64 z)) same_integer
            ∙ sym (bytes_residue w (width_legal f.size (size_in_lem x.word.fields)).1 (integer_after f k s e)))
            ∙ sym (rw (add-one e, lanes_snoc w 0 e (λ (i : ℕ). residue (bits_of w) (integer_after f k s i)), zero-add e))

  -- after the last lane the word is executed
  after_all : file_after f k s (vector_bytes k / w) ≡ (executed f k s).z
  after_all =
      let vectors = ap kind_written x.is in
      rw (executed_vectors f k s vectors, vector_destination f k s vectors, x.is)
      (ap₂ (λ (n : ℕ) (lanes : List ℕ). with_part (place f.d) n lanes s.z) filled
      (sym (padded_full (vector_bytes k) _ (length_lanes w 0 (vector_bytes k / w) _ ∙ filled))))
    where
      filled : vector_bytes k / w * w ≡ vector_bytes k
      filled = whole k f.size (size_in_lem x.word.fields)

-- the turns of a loop over the lanes: of w bytes each, out of so many that the destination has, from the file as it stood
module _ (wide : WideFamily) (ps : Parameters) (f : Fields) (k w bytes : ℕ) (s : State) (h : WideLanes wide ps w f k s) (all : bytes ≡ vector_bytes k) where
  counted : bytes / w ≡ vector_bytes k / width_of f.size
  counted = ap₂ (λ (n v : ℕ). n / v) all h.width

  module _ (e : ℕ) (z : List ℕ) (so_far : z ≡ file_after f k s e) where
    pub turn_done : e < bytes / w → lane_written f k e (state z s.p) ≡ file_after f k s (e + 1)
    turn_done turn = after_next wide f k s h.word e (omega (arith, counted)) z so_far

    pub all_done : e ≡ bytes / w → z ≡ (executed f k s).z
    all_done end = so_far ∙ ap (file_after f k s) (end ∙ counted) ∙ after_all wide f k s h.word
