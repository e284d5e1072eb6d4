-- A share of Q in P (the periodic resource model): Q ticks in every period of P, at the worst time.
use Rattle.std.specs.Prelude.{ℕ, ◌+◌, ◌-◌, ◌*◌, ◌≤◌, max, if◌then◌else◌}
use Rattle.numbers.specs.Ranges.{from_to}
use Rattle.numbers.specs.Rounding.{rounded_up}
use Rattle.supplies.specs.Supplied.{up_to_last}

-- the longest period of a share
abbrev pub longest_period : ℕ
longest_period = 1000000

-- there is a share of q in p
pub record LawfulShare (q p : ℕ) : Type 0 where
  pub some : 1 ≤ q
  pub part : q ≤ p
  pub brief : p ≤ longest_period

-- the number of the round, from 1, that t falls in
abbrev pub round : ℕ → ℕ → ℕ → ℕ
round q p t = max (rounded_up (t - (p - q)) p) 1

-- what is given by t, where k is its round: more with each tick while the budget is given, else what the rounds before gave
abbrev pub given_by : ℕ → ℕ → ℕ → ℕ → ℕ
given_by q p k t = if from_to ((k + 1) * p - 2 * q) ((k + 1) * p - q) t then t - (k + 1) * (p - q) else (k - 1) * q

-- the least time that a share of q in p gives
abbrev pub share : ℕ → ℕ → ℕ → ℕ
share q p = up_to_last (λ t. given_by q p (round q p t) t)
