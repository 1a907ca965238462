-- A sum as the scope has it: the range of lanes is split at its middle and each half summed the same way, down to single lanes.
use Rattle.std.specs.Prelude.{ℕ, zero, suc, ◌+◌, ◌-◌, ◌/◌, ◌%◌, ◌^◌, Bool, cond, List, ◌==◌, nat_le}
use Rattle.lanes.specs.Integer.{residue}
use Rattle.lanes.specs.Sum.{active_element}

-- the middle of a range
abbrev pub middle_of : ℕ → ℕ → ℕ
middle_of a b = a + (b - a) / 2

-- the sum modulo 2^64 of what each lane from a up to but without b adds: of none 0, of one what it adds, else the sum of both halves' sums;
-- a range of at most `bound` lanes is halved fewer times than that
unfoldable pub split_within : (ℕ → ℕ) → ℕ → ℕ → ℕ → ℕ
split_within adds zero a b = 0
split_within adds (suc bound) a b =
    cond (nat_le b a) 0
    (cond (b - a == 1) (adds a) ((split_within adds bound a (middle_of a b) + split_within adds bound (middle_of a b) b) % 2 ^ 64))

-- the sum of the active lanes from a up to but without b, split so
abbrev pub split_sum : Bool → ℕ → ℕ → ℕ → List ℕ → List ℕ → ℕ
split_sum signed w a b predicate register = split_within (λ e. residue 64 (active_element signed w predicate register e)) (b - a) a b
