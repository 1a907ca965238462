-- The fields of a text of an accepted word are read back, so naming is injective.
-- Assumes nothing.
use mathlib.Core.Path.{◌≡◌, refl, ◌∙◌, ap}
use mathlib.Core.Bool.{Bool, true, false}
use mathlib.Core.List.{List, [], ◌∷◌, ◌++◌}
use Prim.Native.Nat.{ℕ, ◌+◌, ◌-◌, ◌^◌, ◌≤◌, ◌<◌}
use native.Mathlib.Omega.{arith}
use lib.Dec.{eqb, leb}
use lib.ListN.{length, get_or, length-append}
use lib.Seq.{take-append-le}
use borrow.Author.Tests.{eqb-true, leb-true}
use Rattle.parts.specs.Part.{both}
use Rattle.parts.specs.Text.{bytes}
use Rattle.parts.proofs.Same.{both_left, both_right}
use Rattle.machine.specs.Size.{sizes}
use Rattle.rows.specs.Table.{name_bytes, rows, row_at, family_of, form_of}
use Rattle.words.specs.Sizes.{allows_family}
use Rattle.words.specs.Field.{register_digits, size_digits_in, source_digits, governing_digits, second_digits, q_digits, pattern_digits}
use Rattle.words.specs.Encode.{InRange}
use Rattle.rows.specs.declared.Family.{Family}
use Rattle.rows.specs.declared.Family.TheVariants.{Low, Wide, Made}
use Rattle.rows.specs.declared.LowFamily.TheVariants.{Reduction, Segment, Long}
use Rattle.rows.specs.declared.WideFamily.TheVariants.{Pairwise, Widening}
use Rattle.rows.specs.declared.MadeFamily.TheVariants.{Patterned, Cleared}
use Rattle.words.specs.declared.Fields.{Fields}
use Rattle.words.proofs.Decoding.{size_in_lem, source_in, destination_in, pattern_in_lem}
use Rattle.rows.proofs.Every.{every, at_each}
use Rattle.digits.specs.Digits.{decimal}
use Rattle.digits.proofs.Decimals.{decimal_least}
use Rattle.patterns.specs.Text.{pattern_text, pattern_named}
use Rattle.patterns.proofs.Texts.{named_text}
use Rattle.operands.specs.declared.Suffix.{Suffix}
use Rattle.operands.specs.declared.Suffix.TheVariants.{Lane}
use Rattle.operands.specs.declared.Operand.{Operand}
use Rattle.operands.specs.Operands.{letters, letter_of, lanes_of, suffix_text, destination_operand, governing_operand, source_operand}
use Rattle.names.specs.Text.{key_of, name_of, key_from, row_named, listed, operands_text, text_of}
use Rattle.scans.specs.Scanned.{past_space, is_digit, number_in, from_end, place_of, size_in}
use Rattle.assembles.specs.Reading.{first_in, second_in, third_in, pattern_in, size_before, fields, read_as, fields_from}
use Rattle.assembles.proofs.Free.{free_letter, past_operand, past_name}
use Rattle.assembles.proofs.Numbers.{listed_number}
use Rattle.assembles.proofs.Ends.{end_append, last_of, listed_end, lane_end, lanes_end, lane_before, place_letter, count_end, count_q}

-- a row's first six bytes name it, whatever follows
row_good : ℕ → Bool
row_good row = both (leb name_bytes (length (name_of row ++ bytes " "))) (eqb (row_named (name_of row ++ bytes " ")) row)

rows_good : every rows row_good ≡ true
unfolding row_good row_at key_of name_of row_named key_from
rows_good = refl

row_back : (row : ℕ) (l : List ℕ) → row < rows → row_named (name_of row ++ bytes " " ++ l) ≡ row
unfolding row_good row_named
row_back row l h =
    let e = at_each rows row_good rows_good row h in
    ap (key_from 0 _) (take-append-le name_bytes (name_of row ++ bytes " ") l (leb-true _ _ (both_left _ _ e)))
    ∙ eqb-true _ _ (both_right (leb name_bytes (length (name_of row ++ bytes " "))) _ e)

-- a text by its first operand, the others and what stands after them
module _ (f : Fields) (h : f.row < rows) (o : Operand) (os : List Operand) (end : List ℕ)
    (reads : text_of f ≡ name_of f.row ++ bytes " " ++ listed (o ∷ os) end) where
  first_text : past_space (text_of f) ≡ listed (o ∷ os) end
  first_text = ap past_space reads ∙ past_name f.row (listed (o ∷ os) end) h

  first_number : is_digit (get_or end 0 0) ≡ false → o.number < 100 → first_in (text_of f) ≡ o.number
  first_number e less = ap number_in first_text ∙ listed_number o os end e less

-- a text by its first two operands and the others, after which nothing stands
module _ (f : Fields) (h : f.row < rows) (o p : Operand) (os : List Operand)
    (reads : text_of f ≡ name_of f.row ++ bytes " " ++ listed (o ∷ p ∷ os) []) (lettered : eqb o.letter 32 ≡ false) where
  second_text : past_space (past_space (text_of f)) ≡ listed (p ∷ os) []
  second_text = ap past_space (first_text f h o (p ∷ os) [] reads) ∙ past_operand o (listed (p ∷ os) []) lettered

  second_number : p.number < 100 → second_in (text_of f) ≡ p.number
  second_number less = ap number_in second_text ∙ listed_number p os [] refl less

  third_number : (q : Operand) → os ≡ q ∷ [] → eqb p.letter 32 ≡ false → q.number < 100
      → third_in (text_of f) ≡ q.number
  third_number q e letter less =
      ap (λ (l : List ℕ). number_in (past_space l)) (second_text ∙ ap (λ (l : List Operand). listed (p ∷ l) []) e)
      ∙ ap number_in (past_operand p (listed (q ∷ []) []) letter)
      ∙ listed_number q [] [] refl less

  text_end : (i : ℕ) → i ≤ length (suffix_text (last_of o (p ∷ os)).suffix) → from_end (text_of f) i ≡ from_end (suffix_text (last_of o (p ∷ os)).suffix) i
  text_end i less =
      let (within, end) = listed_end o (p ∷ os) i less in
      ap (λ (l : List ℕ). from_end l i) reads ∙ end_append (name_of f.row ++ bytes " ") (listed (o ∷ p ∷ os) []) i within ∙ end

-- fields without a pattern are the same where each is
fields_same : (f : Fields) (size d g n m q : ℕ) → size ≡ f.size → d ≡ f.d → g ≡ f.g → n ≡ f.n → m ≡ f.m → q ≡ f.q → 0 ≡ f.pattern
    → fields f.row size d g n m q ≡ f
fields_same f size d g n m q hs hd hg hn hm hq hp =
    λ t. record { row = f.row; size = hs t; n = hn t; d = hd t; g = hg t; m = hm t; q = hq t; pattern = hp t }

-- fields have no more digits than those of a family
record Within (f : Fields) (family : Family) : Type 0 where
  size : f.size < 2 ^ size_digits_in family
  n : f.n < 2 ^ source_digits family
  g : f.g < 2 ^ governing_digits family
  m : f.m < 2 ^ second_digits family
  q : f.q < 2 ^ q_digits family
  pattern : f.pattern < 2 ^ pattern_digits family

module _ (f : Fields) (r : InRange f) where
  -- a number of two digits
  register : (n : ℕ) → n < 2 ^ register_digits → n < 100
  register n h = omega arith

  -- what is read of a form of three operands, the last with lanes of a size
  record Three (o p q : Operand) (size : ℕ) : Type 0 where
    first : first_in (text_of f) ≡ o.number
    second : second_in (text_of f) ≡ p.number
    third : third_in (text_of f) ≡ q.number
    lane : size_in (text_of f) 1 ≡ size

  three : (o p q : Operand) (size : ℕ) → text_of f ≡ name_of f.row ++ bytes " " ++ listed (o ∷ p ∷ q ∷ []) []
      → eqb o.letter 32 ≡ false → eqb p.letter 32 ≡ false → o.number < 100 → p.number < 100 → q.number < 100
      → q.suffix ≡ Lane size → size < sizes → Three o p q size
  three o p q size reads lo lp ho hp hq e h =
      record {
        first = first_number f r.row o (p ∷ q ∷ []) [] reads refl ho;
        second = second_number f r.row o p (q ∷ []) reads lo hp;
        third = third_number f r.row o p (q ∷ []) reads lo q refl lp hq;
        lane =
            ap (λ (b : ℕ). place_of b letters)
            (text_end f r.row o p (q ∷ []) reads lo 1 (rw e (omega arith)) ∙ ap (λ (s : Suffix). from_end (suffix_text s) 1) e ∙ lane_end size)
            ∙ place_letter size h;
      }

  -- a long form has a count of lanes last
  long : (wide : Bool) → Within f (Low Long) → text_of f ≡ name_of f.row ++ bytes " " ++ operands_text (Low Long) wide f
      → read_as f.row (Low Long) (text_of f) ≡ f
  long wide w reads =
      let o = destination_operand (Low Long) f in
      let p = source_operand (Low Long) wide f.n f in
      let count = lanes_of f.q f.size in
      let letter = free_letter (f.size + 1) in
      let most = length-append (decimal count) (letter_of f.size ∷ []) in
      let size =
      ap (λ (b : ℕ). place_of b letters) (text_end f r.row o p [] reads letter 1 (omega arith) ∙ lanes_end count f.size)
      ∙ place_letter f.size (size_in_lem r) in
      let before = text_end f r.row o p [] reads letter 2 (omega (arith, decimal_least count)) ∙ count_end count f.size in
      fields_same f _ _ _ _ _ _ size
      (first_number f r.row o (p ∷ []) [] reads refl (register f.d (destination_in r)))
      (omega (arith, w.g))
      (second_number f r.row o p [] reads letter (register f.n (source_in r)))
      (omega (arith, w.m))
      (rw (size, before) (count_q f.size f.q (size_in_lem r) w.q))
      (omega (arith, w.pattern))

  -- a form of a pattern has it after the second space, and the size's letter three before
  patterned : (wide : Bool) → Within f (Made Patterned) → text_of f ≡ name_of f.row ++ bytes " " ++ operands_text (Made Patterned) wide f
      → read_as f.row (Made Patterned) (text_of f) ≡ f
  patterned wide w reads =
      let o = destination_operand (Made Patterned) f in
      let end = bytes ", " ++ pattern_text f.pattern in
      let rest : past_space (past_space (text_of f)) ≡ pattern_text f.pattern =
      ap past_space (first_text f r.row o [] end reads) ∙ past_operand o (pattern_text f.pattern) refl in
      let pattern : pattern_in (text_of f) ≡ f.pattern = ap pattern_named rest ∙ named_text f.pattern (pattern_in_lem r) in
      let size : size_before (text_of f) ≡ f.size =
      ap (λ (l : List ℕ). size_in (text_of f) (length l + 3)) rest
      ∙ ap (λ (l : List ℕ). size_in l (length (pattern_text f.pattern) + 3)) reads
      ∙ ap (λ (b : ℕ). place_of b letters) (lane_before (name_of f.row ++ bytes " ") (pattern_text f.pattern) _ f.d f.size)
      ∙ place_letter f.size (size_in_lem r) in
      let d = first_number f r.row o [] end reads refl (register f.d (destination_in r)) in
      let n : 0 ≡ f.n = omega (arith, w.n) in
      let g : 0 ≡ f.g = omega (arith, w.g) in
      let m : 0 ≡ f.m = omega (arith, w.m) in
      let q : 0 ≡ f.q = omega (arith, w.q) in
      λ t. record { row = f.row; size = size t; n = n t; d = d t; g = g t; m = m t; q = q t; pattern = pattern t }

  -- the fields are read back, family by family: a field of no digits is 0
  family_back : (family : Family) (signed wide : Bool) → Within f family → allows_family family signed f.q f.size ≡ true
      → text_of f ≡ name_of f.row ++ bytes " " ++ operands_text family wide f → read_as f.row family (text_of f) ≡ f
  family_back (Low Reduction) signed wide w ok reads =
      let family = Low Reduction in
      let t = three (destination_operand family f) (governing_operand family f) (source_operand family wide f.n f) f.size reads refl refl
      (register f.d (destination_in r)) (omega (arith, w.g)) (register f.n (source_in r)) refl (size_in_lem r) in
      fields_same f _ _ _ _ _ _ t.lane t.first t.second t.third (omega (arith, w.m)) (omega (arith, w.q)) (omega (arith, w.pattern))
  family_back (Low Segment) signed wide w ok reads =
      let family = Low Segment in
      let t = three (destination_operand family f) (governing_operand family f) (source_operand family wide f.n f) f.size reads refl refl
      (register f.d (destination_in r)) (omega (arith, w.g)) (register f.n (source_in r)) refl (size_in_lem r) in
      fields_same f _ _ _ _ _ _ t.lane t.first t.second t.third (omega (arith, w.m)) (omega (arith, w.q)) (omega (arith, w.pattern))
  family_back (Low Long) signed wide w ok reads = long wide w reads
  family_back (Wide Pairwise) signed wide w ok reads =
      let family = Wide Pairwise in
      let least = leb-true 1 f.size (both_left _ (leb f.size 3) ok) in
      let t = three (destination_operand family f) (governing_operand family f) (source_operand family wide f.n f) (f.size - 1) reads refl refl
      (register f.d (destination_in r)) (omega (arith, w.g)) (register f.n (source_in r)) refl (omega (arith, size_in_lem r)) in
      fields_same f _ _ _ _ _ _ (omega (arith, t.lane)) t.first t.second t.third (omega (arith, w.m)) (omega (arith, w.q))
      (omega (arith, w.pattern))
  family_back (Wide Widening) signed wide w ok reads =
      let family = Wide Widening in
      let least = leb-true 1 f.size (both_left _ (leb f.size 3) ok) in
      let t = three (destination_operand family f) (source_operand family wide f.n f) (source_operand family false f.m f) (f.size - 1) reads refl refl
      (register f.d (destination_in r)) (register f.n (source_in r)) (register f.m w.m) refl (omega (arith, size_in_lem r)) in
      fields_same f _ _ _ _ _ _ (omega (arith, t.lane)) t.first (omega (arith, w.g)) t.second t.third (omega (arith, w.q))
      (omega (arith, w.pattern))
  family_back (Made Patterned) signed wide w ok reads = patterned wide w reads
  family_back (Made Cleared) signed wide w ok reads =
      fields_same f _ _ _ _ _ _ (omega (arith, w.size))
      (first_number f r.row (destination_operand (Made Cleared) f) [] [] reads refl (register f.d (destination_in r)))
      (omega (arith, w.g)) (omega (arith, w.n)) (omega (arith, w.m)) (omega (arith, w.q)) (omega (arith, w.pattern))

  -- so the fields of a text are those that it was made of
  pub read_back : fields_from (text_of f) ≡ f
  unfolding text_of
  read_back =
      let family = family_of f.row in
      let wide = (form_of f.row).parameters.wide in
      let row = row_back f.row (operands_text family wide f) r.row in
      let w : Within f family = record { size = r.size; n = r.n; g = r.g; m = r.m; q = r.q; pattern = r.pattern } in
      ap (λ (i : ℕ). read_as i (family_of i) (text_of f)) row ∙ family_back family _ wide w r.allowed refl
