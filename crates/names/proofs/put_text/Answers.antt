-- `put_text` meets its contract: the name, the destination, the further operands and the pattern, one after the other; the output has room for each.
-- Assumes nothing.
use Rattle.std.proofs.Common.{◌≡◌, ℕ, false, List, [], ◌++◌, refl, sym, ◌∙◌, ap}
use mathlib.Core.List.{append-nil}
use Rattle.parts.specs.Text.{bytes}
use Rattle.rows.specs.Table.{form_of}
use Rattle.rows.specs.declared.Form.{Form}
use Rattle.words.specs.Field.{governing_digits, source_digits, second_digits, pattern_digits}
use Rattle.words.specs.declared.Fields.{Fields}
use Rattle.digits.specs.Put.{Put}
use Rattle.digits.proofs.Puts.{Begun, begun, begun_room, begun_then, begun_all}
use Rattle.operands.specs.declared.Operand.{Operand}
use Rattle.operands.specs.Operands.{operand_text, further, further_pattern, destination_operand, governing_operand, source_operand}
use Rattle.names.specs.Text.{name_of, following, text_of}
use Rattle.names.proofs.Pieces.{others, sources, seconds, ending, text_form, text_fits, following_where}
use Rattle.names.proofs.put_text.Goals as goal

-- a text of which this piece and these operands are left, and what stands after the last
abbrev Left : Form → Fields → List ℕ → List ℕ → List Operand → List ℕ → ℕ → Type 0
Left form f old piece rest new at = Begun old (text_of f) piece (following rest (ending form f)) new at

-- after the name the destination and those after it are left; after each operand, the next and those after it; and then the pattern
module _ {form : Form} (f : Fields) {old : List ℕ} (is : form ≡ form_of f.row) where
  module _ {o : Operand} {new : List ℕ} {at : ℕ} (name : Put old 0 (name_of f.row ++ bytes " ") new at) (destination : o ≡ destination_operand form.family f) where
    to_first : Left form f old (operand_text o) (others form f) new at
    to_first =
        begun_then (begun (text_form form f is)) name
        (ap (λ (o : Operand). operand_text o ++ following (others form f) (ending form f)) (sym destination))

    module _ {d : ℕ} {p : Operand} {new1 : List ℕ} {at1 : ℕ} (first : Put new at (operand_text o) new1 at1)
        (in_field : d ≡ governing_digits form.family) (governing : p ≡ governing_operand form.family f) where
      to_second : Left form f old (further d p) (sources form f) new1 at1
      to_second = begun_then to_first first (following_where _ _ in_field governing)

      module _ {d1 : ℕ} {p1 : Operand} {new2 : List ℕ} {at2 : ℕ} (second : Put new1 at1 (further d p) new2 at2)
          (in_field1 : d1 ≡ source_digits form.family) (source : p1 ≡ source_operand form.family form.parameters.wide f.n f) where
        to_third : Left form f old (further d1 p1) (seconds form f) new2 at2
        to_third = begun_then to_second second (following_where _ _ in_field1 source)

        module _ {d2 : ℕ} {p2 : Operand} {new3 : List ℕ} {at3 : ℕ} (third : Put new2 at2 (further d1 p1) new3 at3)
            (in_field2 : d2 ≡ second_digits form.family) (other : p2 ≡ source_operand form.family false f.m f) where
          to_fourth : Left form f old (further d2 p2) [] new3 at3
          to_fourth = begun_then to_third third (following_where [] _ in_field2 other)

          to_pattern : {d3 : ℕ} {new4 : List ℕ} {at4 : ℕ} → Put new3 at3 (further d2 p2) new4 at4 → d3 ≡ pattern_digits form.family
              → Begun old (text_of f) (further_pattern d3 f.pattern) [] new4 at4
          to_pattern fourth in_field3 =
              begun_then to_fourth fourth (ap (λ (d : ℕ). further_pattern d f.pattern) (sym in_field3) ∙ sym (append-nil _))

pub put_operand-second-requires : goal.put_operand-second-requires
put_operand-second-requires c =
    begun_room (to_first c.args.f c.form_of-form.ensures c.put_name-first.ensures c.destination.ensures)
    (text_fits c.args.f c.requires.1 _ c.requires.0)

pub put_further-third-requires : goal.put_further-third-requires
put_further-third-requires c =
    begun_room (to_second
    c.args.f c.form_of-form.ensures c.put_name-first.ensures c.destination.ensures
    c.put_operand-second.ensures c.governing_digits.ensures.is c.governing.ensures)
    (text_fits c.args.f c.requires.1 _ c.requires.0)

pub put_further-fourth-requires : goal.put_further-fourth-requires
put_further-fourth-requires c =
    begun_room (to_third
    c.args.f c.form_of-form.ensures c.put_name-first.ensures c.destination.ensures
    c.put_operand-second.ensures c.governing_digits.ensures.is c.governing.ensures
    c.put_further-third.ensures c.source_digits.ensures.is c.source.ensures)
    (text_fits c.args.f c.requires.1 _ c.requires.0)

pub put_further-last-requires : goal.put_further-last-requires
put_further-last-requires c =
    begun_room (to_fourth
    c.args.f c.form_of-form.ensures c.put_name-first.ensures c.destination.ensures
    c.put_operand-second.ensures c.governing_digits.ensures.is c.governing.ensures
    c.put_further-third.ensures c.source_digits.ensures.is c.source.ensures
    c.put_further-fourth.ensures c.second_digits.ensures.is c.source-2.ensures)
    (text_fits c.args.f c.requires.1 _ c.requires.0)

pub put_further_pattern-requires : goal.put_further_pattern-requires
put_further_pattern-requires c =
    begun_room (to_pattern
    c.args.f c.form_of-form.ensures c.put_name-first.ensures c.destination.ensures
    c.put_operand-second.ensures c.governing_digits.ensures.is c.governing.ensures
    c.put_further-third.ensures c.source_digits.ensures.is c.source.ensures
    c.put_further-fourth.ensures c.second_digits.ensures.is c.source-2.ensures
    c.put_further-last.ensures c.pattern_digits.ensures.is)
    (text_fits c.args.f c.requires.1 _ c.requires.0)

pub returns : goal.returns
returns c =
    begun_all (to_pattern
    c.args.f c.form_of-form.ensures c.put_name-first.ensures c.destination.ensures
    c.put_operand-second.ensures c.governing_digits.ensures.is c.governing.ensures
    c.put_further-third.ensures c.source_digits.ensures.is c.source.ensures
    c.put_further-fourth.ensures c.second_digits.ensures.is c.source-2.ensures
    c.put_further-last.ensures c.pattern_digits.ensures.is)
    c.put_further_pattern.ensures refl
