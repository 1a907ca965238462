-- A place that is sought among some: there, or in none of them.
use Rattle.std.specs.Prelude.{ℕ, cond, Option, Some, None, ltb}

-- a place below a count; none where it is the count, or above
abbrev pub found : ℕ → ℕ → Option ℕ
found count i = cond (ltb i count) (Some i) None
