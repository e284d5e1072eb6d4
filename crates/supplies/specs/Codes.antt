-- The codes and numbers by which supplies are known on sheets.
use Rattle.std.specs.Prelude.{ℕ}

-- the code of the whole processor
abbrev pub whole_code : ℕ
whole_code = 1

-- the code of a share
abbrev pub share_code : ℕ
share_code = 2

-- the two numbers of a supply that needs none; a share tells its budget and its period
abbrev pub no_numbers : ℕ × ℕ
no_numbers = (0, 0)
