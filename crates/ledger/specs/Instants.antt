-- Slack, first instants and hold times of a ledger, and the tables that leave every task an instant.
use Rattle.std.specs.Prelude.{ℕ, ◌+◌, ◌-◌, ◌≤◌, if◌then◌else◌, List, length, take, ℤ, Option, nat_lt, unwrap_or}
use Rattle.loads.specs.Kind.{Kind}
use Rattle.supplies.specs.Supplied.{last_instant}
use Rattle.analysis.specs.Instants.{requests, work_of, slack_of, first_covered}
use Rattle.ledger.specs.Ledger.{Task, Ledger, task, rows, section}
use Rattle.ledger.specs.Ceilings.{ceiling, blocking, most, Fits}

-- the rows of the positions above i
abbrev pub above : Ledger → ℕ → List (List ℕ)
above l i = take (i - 1) (rows l)

module _ (k : Kind) where
  -- the longest job of position i
  abbrev pub job : Ledger → ℕ → ℕ
  job l i = k.longest (task l i).row

  -- one job of position i, and all that can come from above it in t ticks
  abbrev pub work : Ledger → ℕ → ℕ → ℕ
  work l i t = work_of k (above l i) (job l i) t

module _ (k : Kind) (s : ℕ → ℕ) where
  -- t is from 1 to the deadline of position i, and the supply at t covers its work and its blocking
  pub record Instant (l : Ledger) (c : List ℕ) (i t : ℕ) : Type 0 where
    pub from : 1 ≤ t
    pub to : t ≤ (task l i).deadline
    pub served : work k l i t + blocking l c i ≤ s t

  -- the table leaves each task an instant
  abbrev pub Serves : Ledger → List ℕ → Type 0
  Serves l c = (i : ℕ) → 1 ≤ i → i ≤ length l.tasks → (t : ℕ) × Instant l c i t

  -- the slack of position i: the most that the supply leaves over at an instant up to the deadline
  abbrev pub slack : Ledger → ℕ → ℤ
  slack l i = slack_of k s (above l i) (job k l i) (task l i).deadline

  -- the first instant at which the supply covers a job of position i and a blocking of b, none where there is none by the deadline
  abbrev pub covered_with : Ledger → ℕ → ℕ → Option ℕ
  covered_with l i b = first_covered k s (above l i) (job k l i + b) (task l i).deadline

  -- the same, 0 where there is none
  abbrev pub first_with : Ledger → ℕ → ℕ → ℕ
  first_with l i b = unwrap_or (covered_with l i b) 0

  -- the first instant of position i, 0 where it has none
  abbrev pub first_instant : Ledger → List ℕ → ℕ → ℕ
  first_instant l c i = first_with l i (blocking l c i)

  -- t is an instant of position i, and there is none earlier
  pub record FirstInstant (l : Ledger) (c : List ℕ) (i t : ℕ) : Type 0 where
    pub instant : Instant l c i t
    pub earliest : (u : ℕ) → Instant l c i u → t ≤ u

  -- the first instant at which a section of n ticks on resource j is through, 0 where there is none: only positions above the ceiling delay it
  abbrev pub through_by : Ledger → List ℕ → ℕ → ℕ → ℕ
  through_by l c j n = unwrap_or (first_covered k s (above l (ceiling c j)) n last_instant) 0

  -- how long a task may hold the resource, 0 where it does not use it
  abbrev pub held_for : Ledger → List ℕ → ℕ → Task → ℕ
  held_for l c j x = if nat_lt 0 (section x j) then through_by l c j (section x j) else 0

  -- the hold time of a resource: the longest that a task may hold it
  abbrev pub hold : Ledger → List ℕ → ℕ → ℕ
  hold l c j = most (held_for l c j) l.tasks

  -- what a section of a task on resource j, and all above the ceiling, ask for in t ticks
  abbrev pub hold_work : Ledger → List ℕ → ℕ → Task → ℕ → ℕ
  hold_work l c j x t = section x j + requests k (above l (ceiling c j)) t

  -- a user of the resource is through with its section, at the first instant at which it can be, by the deadline of the task at the ceiling
  pub record Held (l : Ledger) (c : List ℕ) (j : ℕ) (x : Task) : Type 0 where
    pub from : 1 ≤ held_for l c j x
    pub to : held_for l c j x ≤ (task l (ceiling c j)).deadline
    pub through : hold_work l c j x (held_for l c j x) ≤ s (held_for l c j x)
    pub earliest : (t : ℕ) → 1 ≤ t → hold_work l c j x t ≤ s t → held_for l c j x ≤ t

  -- c is a table that fits and serves, and none such has a smaller ceiling or a shorter hold time anywhere
  pub record Least (l : Ledger) (c : List ℕ) : Type 0 where
    pub fits : Fits l c
    pub serves : Serves l c
    pub lowest : (d : List ℕ) → Fits l d → Serves l d → (j : ℕ) → 1 ≤ j → j ≤ 16 → ceiling c j ≤ ceiling d j
    pub shortest : (d : List ℕ) → Fits l d → Serves l d → (j : ℕ) → 1 ≤ j → j ≤ 16 → hold l c j ≤ hold l d j

  -- some table fits and serves
  abbrev pub Servable : Ledger → Type 0
  Servable l = (c : List ℕ) × Fits l c × Serves l c
