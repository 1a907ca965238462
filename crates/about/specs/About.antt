-- What the call for a row answers, for every number: the sign of its elements, which fields its words have, whether they read their destination, what
-- they need of a core, the bytes of their lanes, and whether they write a predicate.
use Rattle.std.specs.Prelude.{Result, Ok, Err, ℕ, ◌+◌, ◌^◌, ◌<◌, ◌≡◌, ◌⊎◌, Bool, true, false, List, [], ◌∷◌, leb, ltb}
use Rattle.machine.specs.declared.refusal.Refusal.{Refusal}
use Rattle.machine.specs.Refusal.{DONE, code, Test, range_test, refused, unless_refused}
use Rattle.facts.specs.Facts.{sve_bit, sve2_bit, sve2p1_bit, sme_bit, sme2p1_bit, has_bit}
use Rattle.rows.specs.Table.{rows, form_of, family_of}
use Rattle.rows.specs.declared.Family.{Family}
use Rattle.rows.specs.declared.Family.TheVariants.{Low, Wide, Made}
use Rattle.rows.specs.declared.WideFamily.TheVariants.{Pairwise, Widening}
use Rattle.words.specs.Field.{source_digits, governing_digits, second_digits, q_digits, pattern_digits}
use Rattle.cores.specs.Need.{need_of}
use Rattle.cores.specs.declared.Need.{Need}
use Rattle.cores.specs.declared.Need.TheVariants.{Nothing, SveOrSme, Sve2OrSme, Sve2p1OrSme2p1}
use Rattle.about.specs.Widths.{bytes_by_size}
use Rattle.about.specs.declared.FoundRow.{FoundRow}
use Rattle.about.specs.declared.Operand.TheVariants.{First, Second, Destination}

-- the bits of the facts of which one is enough; 0 where nothing is needed
abbrev pub need_byte : Need → ℕ
need_byte Nothing = 0
need_byte SveOrSme = sve_bit + sme_bit
need_byte Sve2OrSme = sve2_bit + sme_bit
need_byte Sve2p1OrSme2p1 = sve2p1_bit + sme2p1_bit

-- the words that read their destination: a pair is added to what a lane held
abbrev pub reads_destination : Family → Bool
reads_destination (Low low) = false
reads_destination (Wide Pairwise) = true
reads_destination (Wide Widening) = false
reads_destination (Made made) = false

-- the words that write a predicate and no vector
abbrev pub writes_predicate : Family → Bool
writes_predicate (Low low) = false
writes_predicate (Wide wide) = false
writes_predicate (Made made) = true

-- the test of a row's number, and its refusal: RANGE or DONE
abbrev pub row_tests : ℕ → List Test
row_tests row = range_test (leb rows row) ∷ []

abbrev pub row_refused : ℕ → ℕ
row_refused row = refused (row_tests row)

-- what is told of a row: the number, the sign of its elements, whether it has g, m and Q, whether it reads its destination, its need, the bytes of the
-- lanes of n, of m and of d at each size, whether it has n and a pattern, and whether it writes a predicate
pub record About : Type 0 where
  pub number : ℕ
  pub signed : Bool
  pub has_g : Bool
  pub has_m : Bool
  pub has_q : Bool
  pub reads_destination : Bool
  pub need : ℕ
  pub n_bytes : List ℕ
  pub m_bytes : List ℕ
  pub d_bytes : List ℕ
  pub has_n : Bool
  pub has_pattern : Bool
  pub writes_predicate : Bool

-- a row
unfoldable pub row_told : ℕ → About
row_told row =
    record {
      number = DONE;
      signed = (form_of row).parameters.signed;
      has_g = ltb 0 (governing_digits (family_of row));
      has_m = ltb 0 (second_digits (family_of row));
      has_q = ltb 0 (q_digits (family_of row));
      reads_destination = reads_destination (family_of row);
      need = need_byte (need_of row);
      n_bytes = bytes_by_size (form_of row) First;
      m_bytes = bytes_by_size (form_of row) Second;
      d_bytes = bytes_by_size (form_of row) Destination;
      has_n = ltb 0 (source_digits (family_of row));
      has_pattern = ltb 0 (pattern_digits (family_of row));
      writes_predicate = writes_predicate (family_of row);
    }

-- a refusal, and nothing told
abbrev pub none_by_size : List ℕ
none_by_size = 0 ∷ 0 ∷ 0 ∷ 0 ∷ []

abbrev pub no_about : ℕ → About
no_about n =
    record {
      number = n;
      signed = false;
      has_g = false;
      has_m = false;
      has_q = false;
      reads_destination = false;
      need = 0;
      n_bytes = none_by_size;
      m_bytes = none_by_size;
      d_bytes = none_by_size;
      has_n = false;
      has_pattern = false;
      writes_predicate = false;
    }

-- what is told, of an outcome
abbrev pub about_in : Result FoundRow Refusal → About
about_in (Ok f) =
    record {
      number = DONE;
      signed = f.signed;
      has_g = f.has_g;
      has_m = f.has_m;
      has_q = f.has_q;
      reads_destination = f.reads_destination;
      need = f.need;
      n_bytes = f.n_bytes;
      m_bytes = f.m_bytes;
      d_bytes = f.d_bytes;
      has_n = f.has_n;
      has_pattern = f.has_pattern;
      writes_predicate = f.writes_predicate;
    }
about_in (Err r) = no_about (code r)

-- the row, or its refusal with nothing
abbrev pub about_answer : ℕ → About
about_answer row = unless_refused (row_refused row) (row_told row) (no_about (row_refused row))

-- two bytes share a bit
pub record Share (a b : ℕ) : Type 0 where
  pub bit : ℕ
  pub few : bit < 8
  pub first : has_bit a (2 ^ bit) ≡ true
  pub second : has_bit b (2 ^ bit) ≡ true

-- a byte of facts is enough for a need: there is none, or they share a bit
abbrev pub Enough : ℕ → ℕ → Type 0
Enough facts need = (need ≡ 0) ⊎ Share facts need
