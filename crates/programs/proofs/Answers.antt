-- Each public call's contract allows one result.
-- Assumes nothing.
use Rattle.std.proofs.Common.{ℕ, ◌≡◌, refl, sym, ◌∙◌, List, Result}
use denote.Ref.{Bor}
use Rattle.machine.specs.declared.refusal.Refusal.{Refusal}
use Rattle.machine.proofs.Codes.{told_tells}
use Rattle.machine.proofs.Tests.{one_result}
use Rattle.programs.specs.declared.FoundWord.{FoundWord}
use Rattle.programs.specs.declared.reader.Reader.{Reader}
use Rattle.programs.specs.declared.reader.Taken.{Taken}
use Rattle.programs.specs.Word.{Next, next_in, next_word}
use Rattle.programs.specs.Read.{Read, reader_at, read_in, read_next}

-- what the paper tells of a program's word is one record
pub word_told_determined : (program : List ℕ) (at : ℕ) (a b : Next) → a ≡ next_word program at → b ≡ next_word program at → a ≡ b
word_told_determined program at = one_result (next_word program at)

pub next_word_determined : (program : List ℕ) (at : ℕ) (a b : Result FoundWord Refusal)
    → next_in at a ≡ next_word program at → next_in at b ≡ next_word program at → a ≡ b
next_word_determined program at a b p q =
    told_tells (next_in at) (λ n. n.number) (λ n. record { word = n.word; at = n.at }) (λ x. refl) (λ r. refl) (λ x. refl) a b (p ∙ sym q)

pub new_determined : (program : Bor (List ℕ)) (a b : Reader) → a ≡ reader_at program 0 → b ≡ reader_at program 0 → a ≡ b
new_determined program = one_result (reader_at program 0)

-- what the paper tells of a read is one record
pub read_next_determined : (r : Reader) (a b : Read) → a ≡ read_next r → b ≡ read_next r → a ≡ b
read_next_determined r = one_result (read_next r)

pub next_determined : (r : Reader) (a b : Result Taken Refusal) → read_in r a ≡ read_next r → read_in r b ≡ read_next r → a ≡ b
next_determined r a b p q =
    told_tells (read_in r) (λ n. n.number) (λ n. record { word = n.word; reader = n.reader }) (λ x. refl) (λ e. refl) (λ x. refl) a b (p ∙ sym q)
