-- An executed word is undone by the entry of the register that it wrote. So a step back after an accepted step is accepted and gives the former
-- state always, and the former journal where the entry's room was zeros; there the step again leaves what it had left, in the room that back
-- gave up.
-- Assumes nothing.
use Prim.Native.Nat.{ℕ}
use mathlib.Core.Path.{◌≡◌, sym, ◌∙◌, ap, ap₂}
use mathlib.Core.List.{List}
use native.Mathlib.Omega.{arith}
use lib.ListN.{replicate}
use Rattle.parts.specs.Part.{part}
use Rattle.machine.specs.Refusal.{DONE}
use Rattle.registers.specs.Register.{Register}
use Rattle.registers.specs.State.{State, write}
use Rattle.words.specs.declared.Fields.{Fields}
use Rattle.meaning.specs.Execute.{target_of, effect_of, executed}
use Rattle.meaning.specs.Needs.{Executable}
use Rattle.meaning.proofs.Effects.{effect_target, effect_sized, target_register, executed_sized}
use Rattle.entries.specs.Layout.{Entry, entry_bytes, entry_at, held_of}
use Rattle.entries.specs.Restored.{entry_of, restored}
use Rattle.entries.proofs.Places.{count_bytes_lem}
use Rattle.entries.proofs.Restored.{entry_whole, entry_restored}
use Rattle.entries.proofs.Written.{Room, held_pushed, last_pushed, formed_pushed, popped_pushed}
use Rattle.journal.specs.Left.{Core, Buffers, buffers_of, left_with}
use Rattle.journal.proofs.Left.{number_left, buffers_left}
use Rattle.journal.proofs.Accepted.{Returning}
use Rattle.steps.specs.Calls.{fields_now, carried_out, stepped, backed, Stepped}
use Rattle.steps.specs.Frame.{Former}
use Rattle.steps.proofs.Accepted.{AcceptedStep, step_accepted, back_accepted, back_accepts}

-- what the entry kept, put back, gives the former state
pub restored_executed : (f : Fields) (k : ℕ) (s : State) → Executable f k s → restored k (entry_of k (target_of f) s) (executed f k s) ≡ s
restored_executed f k s x =
    ap (λ (r : Register). restored k (entry_of k (target_of f) s) (write k r (effect_of f k s).bytes s)) (effect_target f k s)
    ∙ entry_restored k (target_of f) s x.lent (target_register f k s x) (effect_of f k s).bytes (effect_sized f k s x)

module _ (c : Core) (program : List ℕ) (b : Buffers) (a : AcceptedStep c program b) where
  -- the word's fields, and its entry
  abbrev f : Fields
  f = fields_now program b.journal

  abbrev entry : Entry
  entry = entry_of c.k (target_of f) b.files

  -- an accepted step has room for its entry
  pub step_room : Room c.k entry b.journal
  step_room =
      record {
        formed = a.start.formed;
        room = a.room;
        few = a.start.few;
        whole = entry_whole c.k (target_of f) b.files a.start.sized (target_register f c.k b.files a.executes);
      }

  -- and leaves what a step back takes
  pub can_return : Returning c.k (carried_out c.k f b)
  can_return =
      record {
        sized = executed_sized f c.k b.files a.executes;
        formed = formed_pushed c.k entry b.journal step_room a.named;
        some = omega (arith, held_pushed c.k entry b.journal step_room);
      }

  -- so that the former state is restored
  returned_files : (backed c.k (carried_out c.k f b)).after.files ≡ b.files
  returned_files =
      ap (λ (x : Buffers). x.files) (back_accepted c.k (carried_out c.k f b) (back_accepts c.k _ can_return)).left
      ∙ ap (λ (last : Entry). restored c.k last (executed f c.k b.files)) (last_pushed c.k entry b.journal step_room)
      ∙ restored_executed f c.k b.files a.executes

-- from an accepted step's own contract
module _ (c : Core) (program : List ℕ) (b : Buffers) (r : ℕ) (after : Buffers) (made : Stepped c program b r after) (done : r ≡ DONE) where
  accepted : AcceptedStep c program b
  accepted = step_accepted c program b (sym (number_left made.leaves) ∙ done)

  carried : after ≡ carried_out c.k (fields_now program b.journal) b
  carried = buffers_left made.leaves ∙ accepted.left

  pub back_after_step : Former c.k b after
  back_after_step =
      let room = step_room c program b accepted in
      let returns = back_accepts c.k _ (can_return c program b accepted) in
      rw carried
      (record {
        accepted = returns;
        files = returned_files c program b accepted;
        entries = λ empty.
            ap₂ buffers_of (returned_files c program b accepted)
            (ap (λ (x : Buffers). x.journal) (back_accepted c.k _ returns).left
            ∙ popped_pushed c.k _ b.journal room empty (sym (count_bytes_lem b.journal accepted.start.formed.least made.bytes.entries)));
      })

  -- the room that back gives up is used again: back and then the step again leave those buffers
  pub step_after_back : part (entry_at c.k b.journal (held_of b.journal)) (entry_bytes c.k) b.journal ≡ replicate (entry_bytes c.k) 0
      → stepped c program (backed c.k after).after ≡ left_with DONE after
  step_after_back empty = ap (stepped c program) (back_after_step.entries empty) ∙ sym (ap (λ (n : ℕ). left_with n after) (sym done) ∙ made.leaves)
