-- What naming a word on a core answers, and what it leaves in the output. How a word reads does not depend on the core.
use Rattle.std.specs.Prelude.{◌≡◌, ℕ, List, [], ◌∷◌, ltb, length}
use Rattle.parts.specs.Part.{laid}
use Rattle.machine.specs.Refusal.{Test, out_test, refused, unless_refused, answer}
use Rattle.machine.specs.Refusal.{Answer}
use Rattle.facts.specs.declared.Facts.{Facts}
use Rattle.words.specs.Decode.{decoded, word_tests}
use Rattle.words.specs.Decode.{Decoded}
use Rattle.words.specs.Decode.{Unknown, Undefined, Word}
use Rattle.cores.specs.Core.{decoded_on}
use Rattle.names.specs.Text.{text_of}

-- the least output that naming takes
abbrev pub least_out : ℕ
least_out = 32

-- the text of a decoded word: none where it is refused
abbrev pub text_of_decoded : Decoded → List ℕ
text_of_decoded Unknown = []
text_of_decoded Undefined = []
text_of_decoded (Word f) = text_of f

abbrev pub text_of_word : ℕ → List ℕ
text_of_word word = text_of_decoded (decoded word)

-- the bytes of the longest text
abbrev pub most_text : ℕ
most_text = 26

-- the tests of naming a word into n bytes: of the output's length, and of the word on the core
abbrev pub name_tests : ℕ → ℕ → Facts → List Test
name_tests n word facts = out_test (ltb n least_out) ∷ word_tests (decoded_on facts word)

-- the number that naming a word into n bytes answers: OUT, UNKNOWN, UNDEFINED or DONE
abbrev pub name_refused : ℕ → ℕ → Facts → ℕ
name_refused n word facts = refused (name_tests n word facts)

-- what naming a word writes: the text where it is done, else nothing
abbrev pub name_written : ℕ → ℕ → Facts → List ℕ
name_written n word facts = unless_refused (name_refused n word facts) (text_of_word word) []

-- the answer of a refusal: its number with 0
abbrev pub refused_with : ℕ → Answer
refused_with n = record { number = n; value = 0 }

-- naming a word: the answer, and the output's bytes
pub record Named (word : ℕ) (facts : Facts) (old new : List ℕ) (r : Answer) : Type 0 where
  pub answered : r ≡ answer (name_refused (length old) word facts) (length (text_of_word word))
  pub bytes : new ≡ laid (name_written (length old) word facts) old
