-- A register's bytes that were lent on from its file and are given back: what was made of them stands between the bytes around it.
-- Assumes nothing.
use Prim.Native.Nat.{ℕ, ◌+◌, ◌-◌}
use mathlib.Core.Path.{◌≡◌, ◌∙◌}
use mathlib.Core.List.{List}
use native.Mathlib.Nat.{add-sub_cancel_left}
use native.Mathlib.Omega.{arith}
use lib.ListN.{length, take, drop}
use borrow.Rule.Slice.PartMut.{put_mid}
use Rattle.parts.proofs.Put.{put_part}
use Rattle.registers.specs.declared.Kind.{Kind}
use Rattle.registers.specs.Register.{register_bytes, register_at, with_register, InFile}
use Rattle.registers.proofs.Places.{length_register}

-- whatever is made of so many bytes
pub put_register : (k : ℕ) (kind : Kind) (r at bytes : ℕ) (file back : List ℕ) (make : ℕ → List ℕ) → InFile k kind r file → at ≡ register_at k kind r
    → bytes ≡ register_bytes k kind
    → back ≡ make (length (take (at + bytes - at) (drop at file)))
    → put_mid at (at + bytes - at) file back ≡ with_register k kind r (make (register_bytes k kind)) file
put_register k kind r at bytes file back make h place width is =
    put_part at (at + bytes) file back (omega arith) ∙ rw (is, add-sub_cancel_left at bytes, place, width, length_register k kind r file h)
