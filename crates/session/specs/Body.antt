-- What stands past a mark and a version: k, the word count, a byte of facts where they are told, then the vector file, the predicate file and
-- the words. It starts at a place that is given, and more may follow it. Where no facts are told, they are all.
use Rattle.std.specs.Prelude.{Result, Ok, Err, ℕ, ◌+◌, ◌*◌, ◌-◌, ◌≤◌, ◌≡◌, Bool, true, cond, List, leb, length, get_or}
use Rattle.parts.specs.Part.{both, part}
use Rattle.parts.specs.Number.{number_at}
use Rattle.facts.specs.declared.Facts.{Facts}
use Rattle.facts.specs.Facts.{facts_of, all_byte, no_facts}
use Rattle.machine.specs.Size.{is_legal, Legal, vector_file, predicate_file, word_bytes, most_words, Files}
use Rattle.machine.specs.Refusal.{DONE, SESSION, code}
use Rattle.machine.specs.declared.refusal.Refusal.{Refusal}
use Rattle.session.specs.declared.FoundSession.{FoundSession}

-- the bytes of k, of the count and of the facts
abbrev pub length_bytes : ℕ
length_bytes = 1

abbrev pub word_count_bytes : ℕ
word_count_bytes = 2

abbrev pub facts_bytes : ℕ
facts_bytes = 1

-- in a body that starts so: where the count and the facts stand
abbrev pub count_place : ℕ → ℕ
count_place start = start + length_bytes

abbrev pub facts_place : ℕ → ℕ
facts_place start = count_place start + word_count_bytes

-- where its files start: past the facts where they are told, else in their place
unfoldable pub files_place : ℕ → Bool → ℕ
files_place start told = cond told (facts_place start + facts_bytes) (facts_place start)

-- its k, its count, and its byte of facts, which stands for all where they are not told
abbrev pub length_in : ℕ → List ℕ → ℕ
length_in start bytes = number_at start length_bytes bytes

abbrev pub count_in : ℕ → List ℕ → ℕ
count_in start bytes = number_at (count_place start) word_count_bytes bytes

abbrev pub facts_in : ℕ → Bool → List ℕ → ℕ
facts_in start told bytes = cond told (get_or bytes (facts_place start) 0) all_byte

-- where the predicate file and the words start past so many bytes, and where the words end
abbrev pub predicates_at : ℕ → ℕ → ℕ
predicates_at header k = header + vector_file k

abbrev pub program_at : ℕ → ℕ → ℕ
program_at header k = predicates_at header k + predicate_file k

abbrev pub end_at : ℕ → ℕ → ℕ → ℕ
end_at header k count = program_at header k + word_bytes * count

-- where the words of a body end
abbrev pub body_end : ℕ → Bool → List ℕ → ℕ
body_end start told bytes = end_at (files_place start told) (length_in start bytes) (count_in start bytes)

-- k is legal, and the words are not too many
abbrev pub is_sized : ℕ → ℕ → Bool
is_sized k count = both (is_legal k) (leb count most_words)

-- a body: its numbers are there and right, it ends within the bytes, and its facts have no higher bit
abbrev pub is_body : ℕ → Bool → List ℕ → Bool
is_body start told bytes =
    both (leb (facts_place start) (length bytes))
    (both (is_sized (length_in start bytes) (count_in start bytes))
    (both (leb (body_end start told bytes) (length bytes)) (leb (facts_in start told bytes) all_byte)))

-- what bytes say: the number, a length, a count, where the vector file, the predicate file and the program start and the program ends, and
-- a core's facts; with a refusal zeros and none
pub record Session : Type 0 where
  pub number : ℕ
  pub k : ℕ
  pub count : ℕ
  pub vectors : ℕ
  pub predicates : ℕ
  pub program : ℕ
  pub end : ℕ
  pub facts : Facts

-- it, of a session that was found, and of an outcome
abbrev pub session_told : FoundSession → Session
session_told s =
    record {
      number = DONE;
      k = s.k;
      count = s.count;
      vectors = s.vectors;
      predicates = s.predicates;
      program = s.program;
      end = s.end;
      facts = s.facts;
    }

abbrev pub session_in : Result FoundSession Refusal → Session
session_in (Ok s) = session_told s
session_in (Err r) = record { number = code r; k = 0; count = 0; vectors = 0; predicates = 0; program = 0; end = 0; facts = no_facts }

-- the length, the count, where each part past so many bytes starts and the last ends, and the facts
abbrev pub placed : ℕ → ℕ → ℕ → Facts → Session
placed header k count facts =
    record {
      number = DONE;
      k = k;
      count = count;
      vectors = header;
      predicates = predicates_at header k;
      program = program_at header k;
      end = end_at header k count;
      facts = facts;
    }

-- what is answered for other bytes
abbrev pub no_session : Session
no_session = record { number = SESSION; k = 0; count = 0; vectors = 0; predicates = 0; program = 0; end = 0; facts = no_facts }

-- what a body says, and what some bytes say from a place on
abbrev pub body_placed : ℕ → Bool → List ℕ → Session
body_placed start told bytes = placed (files_place start told) (length_in start bytes) (count_in start bytes) (facts_of (facts_in start told bytes))

unfoldable pub body_of : ℕ → Bool → List ℕ → Session
body_of start told bytes = cond (is_body start told bytes) (body_placed start told bytes) no_session

-- the parts of some bytes that it names
abbrev pub vector_part : Session → List ℕ → List ℕ
vector_part s bytes = part s.vectors (s.predicates - s.vectors) bytes

abbrev pub predicate_part : Session → List ℕ → List ℕ
predicate_part s bytes = part s.predicates (s.program - s.predicates) bytes

abbrev pub program_part : Session → List ℕ → List ℕ
program_part s bytes = part s.program (s.end - s.program) bytes

-- bytes that have a body, in the papers' words
pub record IsBody (start : ℕ) (told : Bool) (bytes : List ℕ) : Type 0 where
  pub legal : Legal (length_in start bytes)
  pub few : count_in start bytes ≤ most_words
  pub inside : body_end start told bytes ≤ length bytes
  pub low : told ≡ true → get_or bytes (facts_place start) 0 ≤ all_byte

-- parts that lie one after the other within the bytes, and have the sizes of a legal length and of a program
pub record Parts (bytes : List ℕ) (s : Session) : Type 0 where
  pub starts : s.vectors ≤ s.predicates
  pub middle : s.predicates ≤ s.program
  pub ends : s.program ≤ s.end
  pub inside : s.end ≤ length bytes
  pub files : Files s.k (vector_part s bytes) (predicate_part s bytes)
  pub program_size : length (program_part s bytes) ≡ word_bytes * s.count
  pub few : s.count ≤ most_words
