-- The columns of a sheet's field.
use Rattle.std.specs.Prelude.{ℕ}

-- eight columns hold no larger number
abbrev pub largest_listed : ℕ
largest_listed = 99999999
