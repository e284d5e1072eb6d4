-- What every ledger that edits have made keeps: numbers within their limits.
use Rattle.std.specs.Prelude.{◌≡◌, ℕ, ◌≤◌, length}
use Rattle.loads.specs.Kind.{Kind}
use Rattle.ledger.specs.Ledger.{Task, Ledger, task, section, most_tasks}

-- the numbers of a task are within their limits
pub record SoundTask (k : Kind) (x : Task) : Type 0 where
  pub lawful : k.fault x.row ≡ 0
  pub deadline_low : 1 ≤ x.deadline
  pub deadline_high : x.deadline ≤ k.separation x.row
  pub sixteen : length x.lengths ≡ 16
  pub short : (j : ℕ) → section x j ≤ k.longest x.row

-- so are those of each task, and there are at most 32 tasks and sixteen marks
pub record Sound (k : Kind) (l : Ledger) : Type 0 where
  pub each : (i : ℕ) → 1 ≤ i → i ≤ length l.tasks → SoundTask k (task l i)
  pub few : length l.tasks ≤ most_tasks
  pub marked : length l.marks ≡ 16
