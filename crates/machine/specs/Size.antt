-- The machine's sizes. A length k stands for vectors of 16k bytes; each number is named here once.
use Rattle.std.specs.Prelude.{ℕ, ◌*◌, ◌%◌, ◌^◌, ◌≤◌, ◌≡◌, Bool, true, false, cond, List, [], ◌∷◌, leb, eqb, length}
use Rattle.parts.specs.Part.{both}

-- the least and the most k
abbrev pub least_length : ℕ
least_length = 1

abbrev pub most_length : ℕ
most_length = 16

-- how many vector and predicate registers there are, and how many predicates may govern
abbrev pub vectors : ℕ
vectors = 32

abbrev pub predicates : ℕ
predicates = 16

abbrev pub governing : ℕ
governing = 8

-- how many sizes an element may have: 1, 2, 4 or 8 bytes
abbrev pub sizes : ℕ
sizes = 4

-- whether a number is one of some numbers
abbrev pub is_among : ℕ → List ℕ → Bool
is_among n [] = false
is_among n (m ∷ ms) = cond (eqb n m) true (is_among n ms)

-- the lengths that the machine may have, and whether k is one of them
abbrev pub lengths : List ℕ
lengths = least_length ∷ 2 ∷ 4 ∷ 8 ∷ most_length ∷ []

abbrev pub is_legal : ℕ → Bool
is_legal k = is_among k lengths

-- a legal length in the manual's words: a power of two from the least to the most
pub record Legal (k : ℕ) : Type 0 where
  pub exponent : ℕ
  pub power : k ≡ 2 ^ exponent
  pub least : least_length ≤ k
  pub most : k ≤ most_length

-- the bytes of a segment, and those of a predicate that govern it: a bit for each byte
abbrev pub segment_bytes : ℕ
segment_bytes = 16

abbrev pub segment_predicate : ℕ
segment_predicate = 2

-- the bytes of a vector register and of a predicate register
abbrev pub vector_bytes : ℕ → ℕ
vector_bytes k = segment_bytes * k

abbrev pub predicate_bytes : ℕ → ℕ
predicate_bytes k = segment_predicate * k

-- the bytes of both files
abbrev pub vector_file : ℕ → ℕ
vector_file k = vectors * vector_bytes k

abbrev pub predicate_file : ℕ → ℕ
predicate_file k = predicates * predicate_bytes k

-- the bytes of a word, and the most words of a program
abbrev pub word_bytes : ℕ
word_bytes = 4

abbrev pub most_words : ℕ
most_words = 256

-- n bytes are a program's: whole words, and not more than the most
abbrev pub is_program : ℕ → Bool
is_program n = both (eqb (n % word_bytes) 0) (leb n (word_bytes * most_words))

-- a legal length, and both files of its sizes
pub record Files (k : ℕ) (z p : List ℕ) : Type 0 where
  pub legal : is_legal k ≡ true
  pub vector_size : length z ≡ vector_file k
  pub predicate_size : length p ≡ predicate_file k
