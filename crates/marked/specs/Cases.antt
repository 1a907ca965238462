-- The marked cases M1 to M12: a word, a length, what some registers and predicates hold, and what must come of it.
use Rattle.std.specs.Prelude.{ℕ, zero, suc, cond, List, [], ◌∷◌, ◌++◌, eqb, take, replicate}
use Rattle.machine.specs.Size.{vectors, predicates, vector_bytes, predicate_bytes}
use Rattle.registers.specs.Register.{vector}
use Rattle.registers.specs.State.{state, read}
use Rattle.machine.specs.Refusal.{DONE, UNDEFINED, unless_refused}
use Rattle.parts.specs.Number.{number, bytes_of}
use Rattle.parts.specs.Text.{bytes}
use Rattle.words.specs.Decode.{decoded, number_of, fields_of}
use Rattle.meaning.specs.Execute.{executed}
use Rattle.parts.specs.Text.{bytes}
use Rattle.names.specs.Named.{text_of_word}

-- what a register holds: its number and its first bytes
abbrev pub Held : Type 0
Held = ℕ × List ℕ

-- the first bytes of register r
abbrev pub held_by : ℕ → List Held → List ℕ
held_by r [] = []
held_by r (h ∷ hs) = cond (eqb r h.0) h.1 (held_by r hs)

-- a file of n registers of some bytes from register r on, with zeros where nothing is said
abbrev pub file_from : ℕ → ℕ → ℕ → List Held → List ℕ
file_from r zero size hs = []
file_from r (suc n) size hs = take size (held_by r hs ++ replicate size 0) ++ file_from (suc r) n size hs

-- a case: what is given, and the answer's number, the destination's bytes as one number, and the text
pub record Case : Type 0 where
  pub word : ℕ
  pub k : ℕ
  pub vectors_hold : List Held
  pub predicates_hold : List Held
  pub answer : ℕ
  pub destination : ℕ
  pub text : List ℕ

-- what the definitions give: the answer's number, and unless it is a refusal the destination's bytes as one number and the text
abbrev pub Outcome : Type 0
Outcome = ℕ × ℕ × List ℕ

abbrev pub outcome : Case → Outcome
outcome c =
    let s = state (file_from 0 vectors (vector_bytes c.k) c.vectors_hold) (file_from 0 predicates (predicate_bytes c.k) c.predicates_hold) in
    let f = fields_of (decoded c.word) in
    let n = number_of (decoded c.word) in
    (n, unless_refused n (number (read c.k (vector f.d) (executed f c.k s))) 0, unless_refused n (text_of_word c.word) [])

abbrev pub expected : Case → Outcome
expected c = (c.answer, c.destination, c.text)

abbrev pub case : ℕ → ℕ → List Held → List Held → ℕ → List ℕ → Case
case word k z p d t = record { word = word; k = k; vectors_hold = z; predicates_hold = p; answer = DONE; destination = d; text = t }

-- a word whose row does not allow its size: the number alone
abbrev pub undefined_word : ℕ → Case
undefined_word word =
    record { word = word; k = 1; vectors_hold = []; predicates_hold = []; answer = UNDEFINED; destination = 0; text = [] }

-- a destination that held ones, a source, and another source
abbrev pub ones : ℕ → Held
ones k = (0, replicate (vector_bytes k) 255)

abbrev pub source : List ℕ → Held
source l = (1, l)

-- every lane active
abbrev pub all : List Held
all = (0, replicate 32 255) ∷ []

abbrev pub cases : List Case
cases =
    -- M1, M2, M3
    case 0x04002020 1 (ones 1 ∷ source (replicate 16 0x80) ∷ []) all 0xFFFFFFFFFFFFF800 (bytes "saddv d0, p0, z1.b")
    ∷ case 0x04002020 16 (ones 16 ∷ source (replicate 256 0x80) ∷ []) all 0xFFFFFFFFFFFF8000 (bytes "saddv d0, p0, z1.b")
    ∷ case 0x04002020 16 (ones 16 ∷ source (replicate 256 0x80) ∷ []) [] 0 (bytes "saddv d0, p0, z1.b")
    -- M4
    ∷ case 0x04C12020 1 (ones 1 ∷ source (replicate 8 255 ++ bytes_of 8 2) ∷ []) all 1 (bytes "uaddv d0, p0, z1.d")
    -- M5, M6, M7
    ∷ case 0x6E303820 1 (ones 1 ∷ source (replicate 16 255) ∷ []) [] 0x0FF0 (bytes "uaddlv h0, v1.16b")
    ∷ case 0x6E703820 1 (ones 1 ∷ source (replicate 16 255) ∷ []) [] 0x0007FFF8 (bytes "uaddlv s0, v1.8h")
    ∷ case 0x0E703820 1 (ones 1 ∷ source (0x00 ∷ 0x80 ∷ 0x00 ∷ 0x80 ∷ 0x00 ∷ 0x80 ∷ 0x00 ∷ 0x80 ∷ []) ∷ []) [] 0xFFFE0000 (bytes "saddlv s0, v1.4h")
    -- M8, and with the second segment inactive
    ∷ case 0x04052020 2 (ones 2 ∷ source (bytes_of 16 0xFF ++ bytes_of 16 0x02) ∷ []) all 0x01 (bytes "addqv v0.16b, p0, z1.b")
    ∷ case 0x04052020 2 (ones 2 ∷ source (bytes_of 16 0xFF ++ bytes_of 16 0x02) ∷ []) ((0, 255 ∷ 255 ∷ []) ∷ []) 0xFF (bytes "addqv v0.16b, p0, z1.b")
    -- M9, and inactive
    ∷ case 0x4444A020 1 ((0, bytes_of 2 0x7FFF) ∷ source (1 ∷ 0 ∷ []) ∷ []) all 0x8000 (bytes "sadalp z0.h, p0/m, z1.b")
    ∷ case 0x4444A020 1 ((0, bytes_of 2 0x7FFF) ∷ source (1 ∷ 0 ∷ []) ∷ []) [] 0x7FFF (bytes "sadalp z0.h, p0/m, z1.b")
    -- M10
    ∷ case 0x45420020 1 (ones 1 ∷ source (0x80 ∷ []) ∷ (2, 0x80 ∷ []) ∷ []) [] 0xFF00 (bytes "saddlb z0.h, z1.b, z2.b")
    -- M11: bit 1 governs no lane of two bytes, bit 2 governs lane 1
    ∷ case 0x04402020 1 (ones 1 ∷ source (1 ∷ 0 ∷ 1 ∷ 0 ∷ 1 ∷ 0 ∷ 1 ∷ 0 ∷ 1 ∷ 0 ∷ 1 ∷ 0 ∷ 1 ∷ 0 ∷ 1 ∷ 0 ∷ []) ∷ []) ((0, 2 ∷ 0 ∷ []) ∷ []) 0 (bytes "saddv d0, p0, z1.h")
    ∷ case 0x04402020 1 (ones 1 ∷ source (1 ∷ 0 ∷ 1 ∷ 0 ∷ 1 ∷ 0 ∷ 1 ∷ 0 ∷ 1 ∷ 0 ∷ 1 ∷ 0 ∷ 1 ∷ 0 ∷ 1 ∷ 0 ∷ []) ∷ []) ((0, 4 ∷ 0 ∷ []) ∷ []) 1 (bytes "saddv d0, p0, z1.h")
    -- M12
    ∷ undefined_word 0x2EB03800
    ∷ undefined_word 0x45000000
    ∷ case 0x6EB03800 1 [] [] 0 (bytes "uaddlv d0, v0.4s")
    -- beyond the paper's: differences below zero, signed and unsigned; a whole lane with a half lane, which wrap; the top halves
    ∷ case 0x45421020 1 (ones 1 ∷ source (0x80 ∷ []) ∷ (2, 0x7F ∷ []) ∷ []) [] 0xFF01 (bytes "ssublb z0.h, z1.b, z2.b")
    ∷ case 0x45421C20 1 (ones 1 ∷ source (0xAA ∷ 0x00 ∷ []) ∷ (2, 0x55 ∷ 0xFF ∷ []) ∷ []) [] 0xFF01 (bytes "usublt z0.h, z1.b, z2.b")
    ∷ case 0x45424020 1 (ones 1 ∷ source (0xFF ∷ 0x7F ∷ []) ∷ (2, 0x01 ∷ 0x55 ∷ []) ∷ []) [] 0x8000 (bytes "saddwb z0.h, z1.h, z2.b")
    ∷ case 0x45424C20 1 (ones 1 ∷ source (0xFF ∷ 0xFF ∷ []) ∷ (2, 0x55 ∷ 0xFF ∷ []) ∷ []) [] 0x00FE (bytes "uaddwt z0.h, z1.h, z2.b")
    ∷ case 0x45425020 1 (ones 1 ∷ source [] ∷ (2, 0xFF ∷ []) ∷ []) [] 0x0001 (bytes "ssubwb z0.h, z1.h, z2.b")
    ∷ case 0x45425820 1 (ones 1 ∷ source [] ∷ (2, 0xFF ∷ []) ∷ []) [] 0xFF01 (bytes "usubwb z0.h, z1.h, z2.b")
    ∷ []
