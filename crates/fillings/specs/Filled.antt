-- What the trials start from: bytes by a rule that a reader can repeat, and the words that they execute.
use Rattle.std.specs.Prelude.{ℕ, zero, suc, ◌+◌, ◌*◌, ◌%◌, List, [], ◌∷◌, ◌++◌, length, get_or}
use Rattle.parts.specs.Number.{with_number}
use Rattle.machine.specs.Size.{word_bytes}

-- how many values a byte has, and the first values of a vector file and of a predicate file
abbrev pub byte_values : ℕ
byte_values = 256

abbrev pub vector_seed : ℕ
vector_seed = 3

abbrev pub predicate_seed : ℕ
predicate_seed = 5

-- the value after this one
abbrev pub next_value : ℕ → ℕ
next_value value = (value * 7 + 11) % 251

-- so many bytes from a value on: what is left of each value after division by `cut`
unfoldable pub filled_from : ℕ → ℕ → ℕ → List ℕ
filled_from cut zero value = []
filled_from cut (suc count) value = value % cut ∷ filled_from cut count (next_value value)

-- at least one word of every row: each that writes a vector has it among its sources, and the first that makes a predicate makes the one that
-- governs the others
abbrev pub family_words : List ℕ
family_words =
    (0x04002463 ∷ 0x04C12463 ∷ 0x04452463 ∷ 0x4E303863 ∷ 0x6EB03863 ∷ [])
    ++ (0x4444A463 ∷ 0x44C5A463 ∷ 0x45430063 ∷ 0x45830463 ∷ 0x45C30863 ∷ 0x45430C63 ∷ [])
    ++ (0x45441063 ∷ 0x45831483 ∷ 0x45C51863 ∷ 0x45431CA3 ∷ 0x45834063 ∷ 0x45C44463 ∷ [])
    ++ (0x45434883 ∷ 0x45854C63 ∷ 0x45C350A3 ∷ 0x45435463 ∷ 0x45845863 ∷ 0x45C35C83 ∷ [])
    ++ (0x2558E3C1 ∷ 0x2558E123 ∷ 0x2518E40F ∷ [])

-- a program with so many of its first words replaced by these, one after the other and again from the first
unfoldable pub filled_words : ℕ → List ℕ → List ℕ
filled_words zero program = program
filled_words (suc count) program = with_number (count * word_bytes) word_bytes (get_or family_words (count % length family_words) 0) (filled_words count program)
