-- The lines of a walk: what a step answered, and what it did.
use Rattle.std.specs.Prelude.{ℕ, ◌+◌, ◌*◌, ◌≡◌, List, [], ◌∷◌, ◌++◌, eqb, ltb, length}
use Rattle.parts.specs.Part.{laid}
use Rattle.parts.specs.Text.{bytes}
use Rattle.machine.specs.Size.{most_length, most_words, vector_bytes}
use Rattle.machine.specs.Refusal.{DONE, SESSION, Test, out_test, files_tests, only_where, refused, unless_refused, answer}
use Rattle.machine.specs.Refusal.{Answer}
use Rattle.registers.specs.State.{State, read}
use Rattle.programs.specs.Word.{word_at, place_tests, word_found}
use Rattle.programs.specs.Word.{Next}
use Rattle.facts.specs.declared.Facts.{Facts}
use Rattle.words.specs.Decode.{decoded, word_tests, fields_of}
use Rattle.cores.specs.Core.{decoded_on}
use Rattle.meaning.specs.Execute.{target_of}
use Rattle.digits.specs.Digits.{digits_in, decimal, decimal_width}
use Rattle.names.specs.Named.{text_of_word, most_text}

-- the base of hex, and the hex digits of a byte and of a word
abbrev pub sixteen : ℕ
sixteen = 16

abbrev pub byte_hex_digits : ℕ
byte_hex_digits = 2

abbrev pub word_hex_digits : ℕ
word_hex_digits = 8

-- bytes in hex, the last byte, which is the highest, first
unfoldable pub hex_of : List ℕ → List ℕ
hex_of [] = []
hex_of (b ∷ bs) = hex_of bs ++ digits_in sixteen byte_hex_digits b

-- a field of a line has a space after it, and the last of a line a newline
abbrev pub with_space : List ℕ → List ℕ
with_space field = field ++ bytes " "

abbrev pub with_newline : List ℕ → List ℕ
with_newline field = field ++ 10 ∷ []

-- what a line starts with: the position and the answer number
abbrev pub lead : ℕ → ℕ → List ℕ
lead position number = with_space (decimal position) ++ with_space (decimal number)

-- the line of a refused step: position and number, then the word
abbrev pub refused_line : ℕ → ℕ → ℕ → List ℕ
refused_line position number word = lead position number ++ with_newline (digits_in sixteen word_hex_digits word)

-- the line of an accepted step: position and number, then the word's text and the register
abbrev pub accepted_line : ℕ → ℕ → List ℕ → List ℕ
accepted_line position word register = lead position DONE ++ with_space (text_of_word word) ++ with_newline (hex_of register)

-- the destination register of a word
abbrev pub destination_of : ℕ → ℕ → State → List ℕ
destination_of k word s = read k (target_of (fields_of (decoded word))) s

-- the line of the step at a position of a program, which answered this number and left this state
unfoldable pub step_line : ℕ → State → List ℕ → ℕ → ℕ → List ℕ
step_line k s program position number =
    let word = word_at program position in
    unless_refused number (accepted_line position word (destination_of k word s)) (refused_line position number word)

-- the line of a session that is refused
unfoldable pub session_line : List ℕ
session_line = with_newline (decimal SESSION)

-- the bytes of an accepted step's line that shows a register of n bytes, at most: position, number, text and register, with a byte after each
abbrev pub line_bytes : ℕ → ℕ
line_bytes n = (decimal_width most_words + 1) + (decimal_width DONE + 1) + (most_text + 1) + (byte_hex_digits * n + 1)

-- the bytes of the longest line: that of the longest register
abbrev pub most_line : ℕ
most_line = line_bytes (vector_bytes most_length)

-- the tests of what a line is asked of: the files, the place in the program, and the n bytes of the output
abbrev pub placed_tests : ℕ → State → List ℕ → ℕ → ℕ → List Test
placed_tests k s program position n =
    files_tests k (length s.z) (length s.p) ++ place_tests (length program) position ++ out_test (ltb n most_line) ∷ []

-- the word that a line is asked of, or none where what it is asked of is refused
abbrev pub asked_word : ℕ → State → List ℕ → ℕ → ℕ → Next
asked_word k s program position n = word_found (refused (placed_tests k s program position n)) (word_at program position) position

-- the tests of a line: those of what it is asked of and, for a step that is told done, those of its word on the core
abbrev pub line_tests : ℕ → Facts → State → List ℕ → ℕ → ℕ → ℕ → List Test
line_tests k facts s program position number n =
    placed_tests k s program position n ++ only_where (eqb number DONE) (word_tests (decoded_on facts (word_at program position)))

-- the number that a line is answered with: LENGTH, FILE, PROGRAM, END, OUT, UNKNOWN, UNDEFINED or DONE
unfoldable pub line_refused : ℕ → Facts → State → List ℕ → ℕ → ℕ → ℕ → ℕ
line_refused k facts s program position number n = refused (line_tests k facts s program position number n)

-- the one test of the line of a session that is refused
abbrev pub session_line_tests : ℕ → List Test
session_line_tests n = out_test (ltb n most_line) ∷ []

-- bytes written at the front of the output: the answer, and the output's bytes, which with a refusal are as they stood
pub record Written (refusal : ℕ) (line old new : List ℕ) (r : Answer) : Type 0 where
  pub answered : r ≡ answer refusal (length line)
  pub bytes : new ≡ laid (unless_refused refusal line []) old

-- a step's line written
abbrev pub LineWritten : ℕ → Facts → State → List ℕ → ℕ → ℕ → List ℕ → List ℕ → Answer → Type 0
LineWritten k facts s program position number old new r =
    Written (line_refused k facts s program position number (length old)) (step_line k s program position number) old new r

-- the line of a refused session written
abbrev pub SessionLineWritten : List ℕ → List ℕ → Answer → Type 0
SessionLineWritten old new r = Written (refused (session_line_tests (length old))) session_line old new r
