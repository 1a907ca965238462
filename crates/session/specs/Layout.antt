-- A session's bytes: mark and version, then the body, with facts in the second version, and nothing more. The first version means all facts.
use Rattle.std.specs.Prelude.{ℕ, ◌+◌, ◌≤◌, ◌≡◌, Bool, not, ◌⊎◌, List, [], ◌∷◌, eqb, leb, length, get_or}
use Rattle.parts.specs.Part.{both, part, same_bytes}
use Rattle.parts.specs.Number.{number_at}
use Rattle.facts.specs.Facts.{all_byte}
use Rattle.machine.specs.Size.{most_length, is_among, Legal, most_words}
use Rattle.machine.specs.Refusal.{SESSION, Test, test, refused, unless_refused}
use Rattle.session.specs.Body.{Session}
use Rattle.session.specs.Body.{facts_bytes, facts_place, files_place, length_in, count_in, facts_in, end_at, body_end, is_body, no_session, body_of}

-- the mark `LNW`, and the versions: the first, and the one with facts
abbrev pub mark : List ℕ
mark = 76 ∷ 78 ∷ 87 ∷ []

abbrev pub first_format : ℕ
first_format = 1

abbrev pub facts_format : ℕ
facts_format = 2

abbrev pub versions : List ℕ
versions = first_format ∷ facts_format ∷ []

-- whether a version tells the facts
abbrev pub tells_facts : ℕ → Bool
tells_facts version = eqb version facts_format

-- the bytes of the mark and of the version
abbrev pub mark_bytes : ℕ
mark_bytes = 3

abbrev pub version_bytes : ℕ
version_bytes = 2

-- where the version stands, where k, with which the body starts, and where the facts
abbrev pub version_at : ℕ
version_at = mark_bytes

abbrev pub length_at : ℕ
length_at = version_at + version_bytes

abbrev pub facts_at : ℕ
facts_at = facts_place length_at

-- the bytes of the longest header, which has facts
abbrev pub most_header : ℕ
most_header = facts_at + facts_bytes

-- the bytes before the vector file, by the version
abbrev pub session_header : ℕ → ℕ
session_header version = files_place length_at (tells_facts version)

-- the mark, the version, k and the count that the header gives, and its byte of facts, which stands for all in the first version
abbrev pub session_mark : List ℕ → List ℕ
session_mark bytes = part 0 mark_bytes bytes

abbrev pub session_version : List ℕ → ℕ
session_version bytes = number_at version_at version_bytes bytes

abbrev pub session_length : List ℕ → ℕ
session_length bytes = length_in length_at bytes

abbrev pub word_count : List ℕ → ℕ
word_count bytes = count_in length_at bytes

abbrev pub session_tells : List ℕ → Bool
session_tells bytes = tells_facts (session_version bytes)

abbrev pub facts_byte : List ℕ → ℕ
facts_byte bytes = facts_in length_at (session_tells bytes) bytes

-- the bytes of the longest session
abbrev pub most_session : ℕ
most_session = end_at most_header most_length most_words

-- the mark is right, and the version one of the two
abbrev pub is_headed : List ℕ → Bool
is_headed bytes = both (same_bytes (session_mark bytes) mark) (is_among (session_version bytes) versions)

-- a session: mark and version are there and right, a body follows, and the bytes end where it does
abbrev pub is_session : List ℕ → Bool
is_session bytes =
    both (leb length_at (length bytes))
    (both (is_headed bytes)
    (both (is_body length_at (session_tells bytes) bytes) (eqb (length bytes) (body_end length_at (session_tells bytes) bytes))))

-- the one test of bytes read as a session, and its refusal
abbrev pub session_tests : List ℕ → List Test
session_tests bytes = test SESSION (not (is_session bytes)) ∷ []

abbrev pub session_refused : List ℕ → ℕ
session_refused bytes = refused (session_tests bytes)

-- what some bytes are, read as a session
unfoldable pub session_of : List ℕ → Session
session_of bytes = unless_refused (session_refused bytes) (body_of length_at (session_tells bytes) bytes) no_session

-- bytes that are a session, in the paper's words
pub record IsSession (bytes : List ℕ) : Type 0 where
  pub marked : session_mark bytes ≡ mark
  pub versioned : (session_version bytes ≡ first_format) ⊎ (session_version bytes ≡ facts_format)
  pub legal : Legal (session_length bytes)
  pub few : word_count bytes ≤ most_words
  pub whole : length bytes ≡ end_at (session_header (session_version bytes)) (session_length bytes) (word_count bytes)
  pub told : session_version bytes ≡ facts_format → get_or bytes facts_at 0 ≤ all_byte
