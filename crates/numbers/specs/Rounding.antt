-- A quotient rounded up: how many whole periods it takes to cover so many ticks.
use Rattle.std.specs.Prelude.{ℕ, ◌+◌, ◌/◌, ◌%◌, min}

-- t / d, and one more where something is left over
abbrev pub rounded_up : ℕ → ℕ → ℕ
rounded_up t d = t / d + min 1 (t % d)
