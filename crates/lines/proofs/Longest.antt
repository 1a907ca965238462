-- The digits of a register, and the bytes of a line: at most those of the longest, which is computed from its parts.
-- Assumes nothing.
use mathlib.Core.Path.{◌≡◌, refl}
use mathlib.Core.List.{List}
use Prim.Native.Nat.{ℕ, zero, suc, ◌+◌, ◌*◌, ◌≤◌, ◌<◌}
use native.Mathlib.Omega.{arith}
use lib.ListN.{length, length-append}
use Rattle.machine.specs.Size.{predicates, vector_bytes, most_length, most_words}
use Rattle.machine.specs.Refusal.{DONE}
use Rattle.registers.specs.Register.{Register, IsRegister, predicate, register_bytes}
use Rattle.registers.specs.State.{State, Sized, read}
use Rattle.registers.proofs.Places.{bytes_most}
use Rattle.registers.proofs.States.{read_most, length_read}
use Rattle.programs.specs.Word.{word_at}
use Rattle.words.specs.Decode.{decoded, fields_of}
use Rattle.meaning.specs.Execute.{target_of}
use Rattle.digits.specs.Digits.{decimal_width}
use Rattle.digits.proofs.Decimals.{digits_length, width_most, width_grows}
use Rattle.names.specs.Named.{least_out}
use Rattle.names.proofs.Pieces.{word_length}
use Rattle.lines.specs.Line.{byte_hex_digits, hex_of, lead, refused_line, accepted_line, step_line, line_bytes, most_line}
use Rattle.lines.proofs.Hex.{hex_length}
use Rattle.lines.proofs.Placed.{refused_line_lem}

-- what a line starts with has the digits of two numbers, and a space after each
lead_length : (position number : ℕ) → length (lead position number) ≡ (decimal_width position + 1) + (decimal_width number + 1)
lead_length position number = simp (length-append, digits_length)

-- a register is shown in two digits for each of its bytes, so a predicate in 4k
pub register_digits_lem : (k : ℕ) (r : Register) (s : State) → Sized k s → IsRegister r → length (hex_of (read k r s)) ≡ byte_hex_digits * register_bytes k r.kind
register_digits_lem k r s sized is = rw (hex_length (read k r s), length_read k r s sized is)

pub predicate_digits_lem : (k d : ℕ) (s : State) → Sized k s → d < predicates → length (hex_of (read k (predicate d) s)) ≡ 4 * k
predicate_digits_lem k d s sized is = omega (arith, register_digits_lem k (predicate d) s sized is)

-- a refused step's line is short, whatever its numbers are
pub refused_most : (position number word : ℕ) → length (refused_line position number word) ≤ most_line
refused_most position number word = simp (length-append, digits_length) (omega (arith, width_most position, width_most number))

module _ (position : ℕ) (inside : position ≤ most_words) where
  -- what is lent for a line holds an accepted step's lead and the room that naming takes
  pub accepted_room : length (lead position DONE) + least_out ≤ most_line
  accepted_room = omega (arith, lead_length position DONE, width_grows position most_words inside)

  pub accepted_most : (word : ℕ) (register : List ℕ) → length (accepted_line position word register) ≤ line_bytes (length register)
  accepted_most word register =
      simp (length-append, digits_length, hex_length)
      (omega (arith, width_grows position most_words inside, word_length word))

  module _ (k : ℕ) (s : State) (program : List ℕ) where
    -- the line of a step that is told done is no longer than its register makes it
    pub done_most : length (step_line k s program position DONE) ≤ line_bytes (vector_bytes k)
    unfolding step_line
    done_most =
        let word = word_at program position in
        let r = target_of (fields_of (decoded word)) in
        omega (arith, accepted_most word (read k r s), read_most k r s, bytes_most k r.kind)

    -- no step's line is longer than the longest
    pub step_most : (number : ℕ) → k ≤ most_length → length (step_line k s program position number) ≤ most_line
    step_most zero h = omega (arith, done_most)
    step_most (suc n) h =
        rw (refused_line_lem k s program position (suc n) (word_at program position) refl (λ e. omega arith))
        (refused_most position (suc n) (word_at program position))
