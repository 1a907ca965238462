-- Pieces written one after the other are one piece.
-- Assumes nothing.
use mathlib.Core.Path.{◌≡◌, refl, sym, ◌∙◌, ap}
use mathlib.Core.List.{List, [], ◌∷◌, ◌++◌, append_assoc, append-nil}
use Prim.Native.Nat.{ℕ, suc, ◌+◌, ◌≤◌}
use native.Mathlib.Nat.{add-zero, zero-add, add-suc, suc-add}
use native.Mathlib.Omega.{arith}
use lib.ListN.{length, length-append, take, set}
use lib.Seq.{sets, length-sets, sets-eq, take_at}
use Rattle.digits.specs.Put.{Put}

sets_append : (l : List ℕ) (i : ℕ) (p q : List ℕ) → sets l i (p ++ q) ≡ sets (sets l i p) (i + length p) q
sets_append l i [] q = rw add-zero
sets_append l i (a ∷ p) q = rw (add-suc, ← suc-add) (sets_append _ (suc i) p q)

-- a piece written and one written after it are one piece written
pub put_then : {l m n p q : List ℕ} {at next last : ℕ} → Put l at p m next → Put m next q n last → Put l at (p ++ q) n last
put_then {l} {m} {n} {p} {q} {at} {next} {last} a b =
    record {
      bytes = b.bytes ∙ rw (a.bytes, a.after) (sym (sets_append l at p q));
      after = b.after ∙ rw (length-append p q) (omega (arith, a.after));
    }

-- what a piece is written into keeps its number of bytes
pub put_length : {l m p : List ℕ} {at next : ℕ} → Put l at p m next → length m ≡ length l
put_length {l} {m} {p} {at} {next} a = ap length a.bytes ∙ length-sets l at p

-- room for two pieces is room for the first, and for the second after it
pub room_first : (at : ℕ) (p q : List ℕ) {n : ℕ} → at + length (p ++ q) ≤ n → at + length p ≤ n
room_first at p q h = omega (arith, length-append p q)

pub room_rest : (q : List ℕ) {l m p : List ℕ} {at next : ℕ} → Put l at p m next → at + length (p ++ q) ≤ length l → next + length q ≤ length m
room_rest q {l} {m} {p} {at} {next} a h = omega (arith, length-append p q, put_length a, a.after)

-- nothing written is the empty piece
pub put_none : (l : List ℕ) (at : ℕ) → Put l at [] l at
put_none l at = record { bytes = refl; after = sym (add-zero at) }

-- a byte set is a piece of one byte
pub put_one : (l : List ℕ) (at b : ℕ) → Put l at (b ∷ []) (set l at b) (at + 1)
put_one l at b = record { bytes = refl; after = refl }

-- what was written at the front stands there
pub put_front : {l m p : List ℕ} {next : ℕ} → length p ≤ length l → Put l 0 p m next → take next m ≡ p
put_front {l} {m} {p} {next} h a =
    rw (a.bytes, a.after, zero-add (length p), sets-eq p l 0 (omega arith)) (take_at p _ (length p) refl)

-- a text of which the front is written, the piece that is to be written next, and the rest after it
pub record Begun (old text piece rest new : List ℕ) (at : ℕ) : Type 0 where
  pub written : List ℕ
  pub put : Put old 0 written new at
  pub is : text ≡ written ++ (piece ++ rest)

-- before the first piece nothing is written
pub begun : {old text piece rest : List ℕ} → text ≡ piece ++ rest → Begun old text piece rest old 0
begun {old} e = record { written = []; put = put_none old 0; is = e }

-- where there is room for the text there is room for the piece; written, it leaves the next, or the whole text
module _ {old text piece rest new : List ℕ} {at : ℕ} (b : Begun old text piece rest new at) where
  pub begun_room : length text ≤ length old → at + length piece ≤ length new
  begun_room h = room_first at piece rest (room_rest (piece ++ rest) b.put (omega (arith, ap length b.is)))

  module _ {last : List ℕ} {end : ℕ} (a : Put new at piece last end) where
    pub begun_then : {next later : List ℕ} → rest ≡ next ++ later → Begun old text next later last end
    begun_then e =
        record { written = b.written ++ piece; put = put_then b.put a; is = b.is ∙ rw (← e) (sym (append_assoc b.written piece rest)) }

    pub begun_all : rest ≡ [] → Put old 0 text last end
    begun_all e = rw (b.is, e, append-nil piece) (put_then b.put a)
