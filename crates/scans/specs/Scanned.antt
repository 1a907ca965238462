-- What a text's bytes say at a place: what follows a space, the number after a letter, and by the bytes before the end the size and Q.
use Rattle.std.specs.Prelude.{◌≡◌, ℕ, suc, ◌+◌, ◌*◌, ◌-◌, ◌≤◌, Bool, cond, List, [], ◌∷◌, eqb, leb, length, get_or, drop}
use Prim.Native.Char.{code}
use Rattle.parts.specs.Part.{both}
use Rattle.parts.specs.Text.{bytes}
use Rattle.operands.specs.Operands.{letters}

-- what follows a text's first space
unfoldable pub past_space : List ℕ → List ℕ
past_space [] = []
past_space (b ∷ l) = cond (eqb b (code " ")) l (past_space l)

-- the place after the first space from a place on; the end where there is none
pub record PastSpace (text : List ℕ) (from r : ℕ) : Type 0 where
  pub within : r ≤ length text
  pub rest : drop r text ≡ past_space (drop from text)

-- a byte's worth as a decimal digit, and whether it is one
abbrev pub worth : ℕ → ℕ
worth b = b - code "0"

abbrev pub is_digit : ℕ → Bool
is_digit b = both (leb (code "0") b) (leb b (code "9"))

-- the number of one or two digits after an operand's letter
unfoldable pub number_in : List ℕ → ℕ
number_in l = cond (is_digit (get_or l 2 0)) (worth (get_or l 1 0) * 10 + worth (get_or l 2 0)) (worth (get_or l 1 0))

-- the byte that is k places before a text's end
unfoldable pub from_end : List ℕ → ℕ → ℕ
from_end l k = cond (leb k (length l)) (get_or l (length l - k) 0) 0

-- the place of a byte among others; their number where it is not there
abbrev pub place_of : ℕ → List ℕ → ℕ
place_of b [] = 0
place_of b (l ∷ ls) = cond (eqb b l) 0 (suc (place_of b ls))

-- the size that the letter k places before a text's end tells
abbrev pub size_in : List ℕ → ℕ → ℕ
size_in text k = place_of (from_end text k) letters

-- Q: whether the count of lanes ends as that of 16 bytes does: 16, 8, 4, 2
abbrev pub full_digits : List ℕ
full_digits = bytes "6842"

abbrev pub q_in : ℕ → List ℕ → ℕ
q_in size text = cond (eqb (from_end text 2) (get_or full_digits size 0)) 1 0
