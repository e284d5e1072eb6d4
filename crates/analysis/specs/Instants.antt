-- Work, slack and first instants of a task below others, for any load kind and any supply.
use Rattle.std.specs.Prelude.{ℕ, ◌+◌, ◌-◌, ◌^◌, Bool, List, ℤ, pos, ◌-ℤ◌, sum_by, Option, nat_le}
use Rattle.loads.specs.Kind.{Kind}
use Rattle.analysis.specs.Extremes.{largest, first}

-- the most work that the rows can ask for in t ticks, together
abbrev pub requests : Kind → List (List ℕ) → ℕ → ℕ
requests k rows t = sum_by (λ row. k.request row t) rows

-- no slice of rows asks for more: there are fewer than 2 ^ 64 of them, and each asks for less than 2 ^ 41
abbrev pub most_requested : ℕ
most_requested = 2 ^ 105

-- a base amount of work, as one job, and all that the rows above it can ask for in t ticks
abbrev pub work_of : Kind → List (List ℕ) → ℕ → ℕ → ℕ
work_of k above base t = base + requests k above t

module _ (k : Kind) (s : ℕ → ℕ) (above : List (List ℕ)) where
  -- what the supply leaves over at t, after one job and all that the rows above it can ask for
  abbrev pub left_over : ℕ → ℕ → ℤ
  left_over longest t = pos (s t) -ℤ pos (work_of k above longest t)

  -- the slack: the most that is left over at an instant from 1 to the deadline
  abbrev pub slack_of : ℕ → ℕ → ℤ
  slack_of longest deadline = largest (left_over longest) 1 (deadline - 1)

  -- the supply at t covers a base amount of work and all that the rows above it can ask for
  abbrev pub covered : ℕ → ℕ → Bool
  covered base t = nat_le (work_of k above base t) (s t)

  -- the first instant from 1 to the limit at which the work is covered
  abbrev pub first_covered : ℕ → ℕ → Option ℕ
  first_covered base limit = first (covered base) 1 limit
