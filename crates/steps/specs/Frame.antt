-- What a step and a step back leave alone, and what a step back after a step gives.
use Rattle.std.specs.Prelude.{ℕ, ◌≡◌, length, get_or, replicate}
use Rattle.parts.specs.Part.{part, Outside}
use Rattle.machine.specs.Refusal.{DONE}
use Rattle.registers.specs.declared.Kind.{Kind}
use Rattle.registers.specs.Register.{Register, register_at, register_bytes}
use Rattle.registers.specs.State.{contents}
use Rattle.entries.specs.Layout.{count_at, count_bytes, entry_bytes, entry_at, held_of}
use Rattle.journal.specs.Left.{Buffers}
use Rattle.steps.specs.Calls.{backed}

-- buffers that differ in a register, in entry i and in the count only
pub record Kept (k : ℕ) (r : Register) (i : ℕ) (b after : Buffers) : Type 0 where
  pub sizes : (kind : Kind) → length (contents kind after.files) ≡ length (contents kind b.files)
  pub other : (kind : Kind) → (kind ≡ r.kind → ⊥) → contents kind after.files ≡ contents kind b.files
  pub outside : (x : ℕ) → Outside (register_at k r.kind r.number) (register_bytes k r.kind) x
      → get_or (contents r.kind after.files) x 0 ≡ get_or (contents r.kind b.files) x 0
  pub journal_size : length after.journal ≡ length b.journal
  pub entries : (x : ℕ) → Outside count_at count_bytes x → Outside (entry_at k b.journal i) (entry_bytes k) x
      → get_or after.journal x 0 ≡ get_or b.journal x 0

-- from later buffers a step back is accepted and gives the former state; and the former journal, where the next entry's room was zeros
pub record Former (k : ℕ) (b later : Buffers) : Type 0 where
  pub accepted : (backed k later).number ≡ DONE
  pub files : (backed k later).after.files ≡ b.files
  pub entries : part (entry_at k b.journal (held_of b.journal)) (entry_bytes k) b.journal ≡ replicate (entry_bytes k) 0
      → (backed k later).after ≡ b
