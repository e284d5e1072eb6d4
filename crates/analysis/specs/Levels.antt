-- Slack and first instants at a level of priority, whose kind and supply have these meanings.
use Rattle.std.specs.Prelude.{ℕ, Bool, ℤ, Option}
use Rattle.loads.specs.Kind.{Kind}
use Rattle.analysis.specs.declared.level.Level.{Level}
use Rattle.analysis.specs.Instants.{left_over, slack_of, covered, first_covered}

module _ {K S : Type 0} (means : K → Kind) (gives : S → ℕ → ℕ) (level : Level K S) where
  -- what the supply leaves over at t, after one job and all that the rows above can ask for
  abbrev pub level_left_over : ℕ → ℕ → ℤ
  level_left_over = left_over (means level.kind.now) (gives level.supply.now) level.above.now

  -- the slack: the most that is left over at an instant from 1 to the deadline
  abbrev pub level_slack : ℕ → ℕ → ℤ
  level_slack = slack_of (means level.kind.now) (gives level.supply.now) level.above.now

  -- the supply at t covers a base amount of work and all that the rows above can ask for
  abbrev pub level_covered : ℕ → ℕ → Bool
  level_covered = covered (means level.kind.now) (gives level.supply.now) level.above.now

  -- the first instant from 1 to the limit at which the work is covered
  abbrev pub level_first : ℕ → ℕ → Option ℕ
  level_first = first_covered (means level.kind.now) (gives level.supply.now) level.above.now
