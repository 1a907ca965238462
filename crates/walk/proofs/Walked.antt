-- What a run of the program writes, from what it reads and what it writes of that.
-- Assumes nothing.
use Rattle.std.proofs.Common.{◌≡◌, ℕ, ◌≤◌, ◌<◌, List, [], ◌++◌, Bool, true, false, None, Some, IfSome, refl, sym, ap, ◌∙◌, subst, arith, length, take, length-take-le, take_all, append-nil}
use lib.Dec.{leb}
use borrow.Author.Tests.{leb-true, leb-false}
use Rattle.std.proofs.lemmas.List.{take-append-le}
use Rattle.std.specs.declared.option.Option.{Option}
use Rattle.std.specs.Io.KnownBytes.{Consumes, Appends, IsAtEnd}
use Rattle.digits.specs.Put.{Put}
use Rattle.digits.proofs.Puts.{put_front}
use Rattle.session.specs.Layout.{most_session}
use Rattle.walks.specs.Output.{output_of, most_output}
use Rattle.walks.proofs.Outputs.{output_most}
use Rattle.walks.proofs.Cut.{output_cut}

-- what was read into a room are the first bytes that the room has place for, where all is read that there is or the room is full
read_front : (count room : ℕ) (front rest : List ℕ) → length front ≡ count → count ≤ room → (count < room → rest ≡ []) → take room (front ++ rest) ≡ front
read_front count room front rest long fits whole = go (leb room count) refl
  where
    all : take room front ≡ front
    all = take_all room front (omega (arith, long))

    go : (t : Bool) → leb room count ≡ t → take room (front ++ rest) ≡ front
    go true e =
        let full = leb-true room count e in
        take-append-le room front rest (omega (arith, full, long)) ∙ all
    go false e =
        ap (λ (l : List ℕ). take room (front ++ l)) (whole (leb-false room count e))
        ∙ ap (take room) (append-nil front)
        ∙ all

-- so its walk is that of the whole input
read_output : (count : ℕ) (input rest : List ℕ) → most_session < length input → count ≤ length input → (count < length input → rest ≡ [])
    → output_of (take count input) ≡ output_of (take count input ++ rest)
read_output count input rest room fits whole =
    ap output_of (sym (read_front count (length input) (take count input) rest (length-take-le count input fits) fits whole))
    ∙ output_cut (length input) room (take count input ++ rest)

-- and that is what is written
pub walked : (a b c d : Option (List ℕ)) (input output written : List ℕ) (count n : ℕ) → most_session < length input → count ≤ length input
    → Consumes a b (take count input) → (count < length input → IsAtEnd b) → most_output ≤ length output
    → Put output 0 (output_of (take count input)) written n → Appends c d (take n written) → IfSome a (λ bytes. Appends c d (output_of bytes))
walked None b c d input output written count n room fits read whole space put appended = tt
walked (Some bytes) None c d input output written count n room fits read whole space put appended = absurd read
walked (Some bytes) (Some rest) c d input output written count n room fits read whole space put appended =
    let most = output_most (take count input) in
    let same = read_output count input rest room fits whole ∙ ap output_of (sym read) in
    subst (Appends c d) (put_front (omega (arith, most)) put ∙ same) appended
