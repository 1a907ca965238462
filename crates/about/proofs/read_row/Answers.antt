-- `read_row` meets its contract: a number past the last row is RANGE with nothing told; else each part is told by its own function of the row's form.
-- Assumes nothing.
use Rattle.std.proofs.Common.{◌≡◌, ◌<◌, ℕ, Bool, List, ◌∙◌, ap}
use borrow.Author.Tests.{lt-leb}
use lib.Dec.{ltb}
use Rattle.rows.specs.Table.{rows, form_of}
use Rattle.rows.specs.declared.Form.{Form}
use Rattle.words.specs.Field.{source_digits, governing_digits, second_digits, q_digits, pattern_digits}
use Rattle.cores.specs.Need.{need_of}
use Rattle.about.specs.declared.Operand.TheVariants.{First, Second, Destination}
use Rattle.about.specs.Widths.{bytes_by_size}
use Rattle.about.specs.About.{need_byte, reads_destination, writes_predicate, About, row_told, about_answer}
use Rattle.about.proofs.read_row.Goals as goal

-- what is told of a row, from the parts that its form gives
told : (row : ℕ) (form : Form) {g m q need n pattern : ℕ} {reads writes : Bool} {n-bytes m-bytes d-bytes : List ℕ} → row < rows → form ≡ form_of row
    → g ≡ governing_digits form.family
    → m ≡ second_digits form.family
    → q ≡ q_digits form.family
    → reads ≡ reads_destination form.family
    → need ≡ need_byte (need_of row)
    → n-bytes ≡ bytes_by_size form First
    → m-bytes ≡ bytes_by_size form Second
    → d-bytes ≡ bytes_by_size form Destination
    → n ≡ source_digits form.family
    → pattern ≡ pattern_digits form.family
    → writes ≡ writes_predicate form.family
    → ◌≡◌ {A = About}
    (record {
      number = 0;
      signed = form.parameters.signed;
      has_g = ltb 0 g;
      has_m = ltb 0 m;
      has_q = ltb 0 q;
      reads_destination = reads;
      need = need;
      n_bytes = n-bytes;
      m_bytes = m-bytes;
      d_bytes = d-bytes;
      has_n = ltb 0 n;
      has_pattern = ltb 0 pattern;
      writes_predicate = writes;
    })
    (about_answer row)
unfolding row_told
told row form there is g m q reads need n-bytes m-bytes d-bytes n pattern writes =
    rw (g, m, q, reads, need, n-bytes, m-bytes, d-bytes, n, pattern, writes, is, lt-leb rows row there)

pub returns : goal.returns
returns c =
    told c.args.row c.form_of-form.result c.if-row-ge-ROWS.false c.form_of-form.ensures
    c.governing_digits.ensures.is
    c.second_digits.ensures.is
    c.q_digits.ensures.is
    c.reads_destination.ensures
    (c.need_byte.ensures ∙ ap need_byte c.need_of.ensures)
    c.bytes_by_size.ensures
    c.bytes_by_size-2.ensures
    c.bytes_by_size-3.ensures
    c.source_digits.ensures.is
    c.pattern_digits.ensures.is
    c.writes_predicate.ensures
