-- The codes by which kinds are known on sheets.
use Rattle.std.specs.Prelude.{ℕ, ◌+◌, min}
use Rattle.numbers.specs.Columns.{largest_listed}

-- the code of the plain kind
abbrev pub plain_code : ℕ
plain_code = 1

-- the code of the framed kind
abbrev pub framed_code : ℕ
framed_code = 2

-- the code of a jittered kind, from the code of the kind below
abbrev pub jittered_code : ℕ → ℕ
jittered_code below = min (below + 10) largest_listed
