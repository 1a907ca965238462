-- The words of a program, and what a reader of it answers.
use Rattle.std.specs.Prelude.{Result, Ok, Err, ℕ, ◌+◌, ◌*◌, ◌/◌, List, [], ◌∷◌, ◌++◌, leb, length}
use Rattle.parts.specs.Number.{number_at}
use Rattle.machine.specs.Size.{word_bytes}
use Rattle.machine.specs.Refusal.{DONE, END, code, Test, test, refused, program_tests, unless_refused}
use Rattle.machine.specs.declared.refusal.Refusal.{Refusal}
use Rattle.programs.specs.declared.FoundWord.{FoundWord}

-- word i of a program: four bytes, little-endian
abbrev pub word_at : List ℕ → ℕ → ℕ
word_at program i = number_at (i * word_bytes) word_bytes program

-- how many words some bytes hold
abbrev pub words_of : ℕ → ℕ
words_of n = n / word_bytes

-- the place is not below the number of words
abbrev pub end_tests : ℕ → ℕ → List Test
end_tests n at = test END (leb (words_of n) at) ∷ []

-- the tests of a place in a program of n bytes
abbrev pub place_tests : ℕ → ℕ → List Test
place_tests n at = program_tests n ++ end_tests n at

-- the refusal of a place in a program: PROGRAM, END or DONE
abbrev pub next_refused : List ℕ → ℕ → ℕ
next_refused program at = refused (place_tests (length program) at)

-- what stands at a place of a program: the number, the word, which is 0 with a refusal, and the place that comes next
pub record Next : Type 0 where
  pub number : ℕ
  pub word : ℕ
  pub at : ℕ

-- it, of an outcome at a place
abbrev pub next_in : ℕ → Result FoundWord Refusal → Next
next_in at (Ok f) = record { number = DONE; word = f.word; at = f.at }
next_in at (Err r) = record { number = code r; word = 0; at = at }

-- the word and the next place; with a refusal no word, and the place unmoved
abbrev pub word_found : ℕ → ℕ → ℕ → Next
word_found n word at = record { number = n; word = unless_refused n word 0; at = unless_refused n (at + 1) at }

-- what stands at a place of a program
abbrev pub next_word : List ℕ → ℕ → Next
next_word program at = word_found (next_refused program at) (word_at program at) at
