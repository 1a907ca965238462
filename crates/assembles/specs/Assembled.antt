-- What assembling a text on a core answers: the word that the core accepts and that reads so, or TEXT where there is none.
use Rattle.std.specs.Prelude.{◌≡◌, ◌⊎◌, List, ℕ, ◌<◌, ◌^◌}
use Rattle.machine.specs.Refusal.{DONE, TEXT}
use Rattle.machine.specs.Refusal.{Answer}
use Rattle.rows.specs.Digits.{word_digits}
use Rattle.facts.specs.declared.Facts.{Facts}
use Rattle.words.specs.Decode.{number_of}
use Rattle.cores.specs.Core.{decoded_on}
use Rattle.names.specs.Named.{text_of_word}

-- a word that the core accepts and that reads as this text
pub record ReadsAs (facts : Facts) (word : ℕ) (text : List ℕ) : Type 0 where
  pub below : word < 2 ^ word_digits
  pub accepted : number_of (decoded_on facts word) ≡ DONE
  pub reads : text_of_word word ≡ text

-- the answer is DONE with such a word, or TEXT with 0 where there is none
pub record Assembled (text : List ℕ) (facts : Facts) (r : Answer) : Type 0 where
  pub number : (r.number ≡ DONE) ⊎ (r.number ≡ TEXT)
  pub done : r.number ≡ DONE → ReadsAs facts r.value text
  pub refused : r.number ≡ TEXT → (r.value ≡ 0) × ((word : ℕ) → ReadsAs facts word text → ⊥)
