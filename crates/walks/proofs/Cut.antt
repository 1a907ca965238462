-- An input longer than the longest session: its first bytes, one more than the longest session has or further ones too, print what all of it prints.
-- So a program that reads so many bytes and no more prints what it would print of all.
-- Assumes nothing.
use mathlib.Core.Path.{◌≡◌, refl, sym, ◌∙◌, ap}
use mathlib.Core.Bool.{Bool, true, false}
use mathlib.Core.List.{List}
use Prim.Native.Nat.{ℕ, ◌<◌}
use native.Mathlib.Omega.{arith}
use lib.Dec.{leb}
use lib.ListN.{length, take}
use lib.Seq.{length-take-le, take_all}
use borrow.Author.Tests.{leb-true, leb-false}
use Rattle.session.specs.Body.{no_session}
use Rattle.session.specs.Layout.{most_session}
use Rattle.session.proofs.Reading.{session_cut}
use Rattle.lines.specs.Line.{session_line}
use Rattle.walks.specs.Output.{output_of}
use Rattle.walks.proofs.Outputs.{output_none}

-- a longer input prints the line of what is no session
pub output_longer : (input : List ℕ) → most_session < length input → output_of input ≡ session_line
output_longer input longer = output_none input no_session (sym (session_cut input longer)) (λ e. omega (arith, e))

-- what is read of an input decides its output
pub output_cut : (n : ℕ) → most_session < n → (input : List ℕ) → output_of (take n input) ≡ output_of input
output_cut n room input = go (leb (length input) n) refl
  where
    go : (t : Bool) → leb (length input) n ≡ t → output_of (take n input) ≡ output_of input
    go true e = ap output_of (take_all n input (leb-true (length input) n e))
    go false e =
        let longer = leb-false (length input) n e in
        let read : most_session < length (take n input) = omega (arith, room, longer, length-take-le n input (omega (arith, longer))) in
        output_longer (take n input) read ∙ sym (output_longer input (omega (arith, room, longer)))
