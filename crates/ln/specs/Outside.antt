-- What a host is handed: the library's answers as records of C.
use Rattle.std.specs.Prelude.{ℕ, Bool, true, false, not, cond, List, eqb}
use Rattle.machine.specs.Refusal.{unless_refused}
use Rattle.machine.specs.Refusal.{Answer}
use Rattle.facts.specs.Facts.{byte_of}
use Rattle.words.specs.Decode.{number_of, fields_of}
use Rattle.words.specs.Decode.{Decoded}
use Rattle.words.specs.declared.Fields.{Fields}
use Rattle.registers.specs.declared.Kind.{Kind}
use Rattle.registers.specs.declared.Kind.TheVariants.{Vector, Predicate}
use Rattle.programs.specs.Word.{Next}
use Rattle.registers.specs.Register.{register_bytes, register_at}
use Rattle.pane.specs.Drawn.{register_refused}
use Rattle.totals.specs.Lane.{Lane}
use Rattle.journal.specs.Calls.{Held}
use Rattle.about.specs.About.{About}
use Rattle.ln.specs.declared.LnAnswer.{LnAnswer}
use Rattle.ln.specs.declared.LnEntry.{LnEntry}
use Rattle.ln.specs.declared.LnFields.{LnFields}
use Rattle.ln.specs.declared.LnLane.{LnLane}
use Rattle.ln.specs.declared.LnPlace.{LnPlace}
use Rattle.ln.specs.declared.LnRowAbout.{LnRowAbout}
use Rattle.session.specs.Body.{Session}
use Rattle.ln.specs.declared.LnSession.{LnSession}
use Rattle.ln.specs.declared.LnWord.{LnWord}

-- the version of the header that the library is for
abbrev pub library_version : ℕ
library_version = 8

-- a flag of C: every number but 0 says yes; one that is told is 1 or 0
abbrev pub is_set : ℕ → Bool
is_set n = not (eqb n 0)

abbrev pub flag_for : Bool → ℕ
flag_for t = cond t 1 0

-- the answer with the number as wide as the value, and back
abbrev pub answer_out : Answer → LnAnswer
answer_out a = record { number = a.number; value = a.value }

abbrev pub answer_in : LnAnswer → Answer
answer_in a = record { number = a.number; value = a.value }

-- a number with a word's fields
abbrev pub fields_out : ℕ → Fields → LnFields
fields_out n f = record { number = n; row = f.row; size = f.size; n = f.n; d = f.d; g = f.g; m = f.m; q = f.q; pattern = f.pattern }

abbrev pub decoded_out : Decoded → LnFields
decoded_out d = fields_out (number_of d) (fields_of d)

-- the kind that a flag names
abbrev pub kind_of : Bool → Kind
kind_of false = Vector
kind_of true = Predicate

-- where a register stands: whether in the predicate file, its first byte and its bytes; zeros with a refusal
abbrev pub flag_of : Kind → ℕ
flag_of Vector = 0
flag_of Predicate = 1

abbrev pub place_out : ℕ → ℕ → Kind → ℕ → LnPlace
place_out n k kind r =
    record {
      number = n;
      predicate = unless_refused n (flag_of kind) 0;
      start = unless_refused n (register_at k kind r) 0;
      bytes = unless_refused n (register_bytes k kind) 0;
    }

abbrev pub place_for : ℕ → List ℕ → List ℕ → Kind → ℕ → LnPlace
place_for k z p kind r = place_out (register_refused k z p kind r) k kind r

-- the next word of a program
abbrev pub word_out : Next → LnWord
word_out n = record { number = n.number; word = n.word; at = n.at }

-- a session's length, count and places, and the byte of its facts
abbrev pub session_out : Session → LnSession
session_out s =
    record { number = s.number; k = s.k; count = s.count; vectors = s.vectors; predicates = s.predicates; program = s.program; facts = byte_of s.facts }

-- what is told of a lane, of an entry and of a row
abbrev pub lane_out : Lane → LnLane
lane_out l = record { number = l.number; value = l.value; active = flag_for l.active; start = l.start; bit = l.bit }

abbrev pub entry_out : Held → LnEntry
entry_out e = record { number = e.number; target = e.target; start = e.start; bytes = e.bytes }

abbrev pub about_out : About → LnRowAbout
about_out a =
    record {
      number = a.number;
      is_signed = flag_for a.signed;
      has_g = flag_for a.has_g;
      has_m = flag_for a.has_m;
      has_q = flag_for a.has_q;
      reads_destination = flag_for a.reads_destination;
      need = a.need;
      n_bytes = a.n_bytes;
      m_bytes = a.m_bytes;
      d_bytes = a.d_bytes;
      has_n = flag_for a.has_n;
      has_pattern = flag_for a.has_pattern;
      writes_predicate = flag_for a.writes_predicate;
    }
