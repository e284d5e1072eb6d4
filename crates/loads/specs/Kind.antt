-- What a load kind means: for each row of eight numbers the entry at fault, or the work that the row stands for.
use Rattle.std.specs.Prelude.{◌≡◌, ℕ, ◌<◌, ◌≤◌, min, if◌then◌else◌, ◌≢◌, List, ◌==◌, slice_index}

-- requests are counted up to this instant: a later one counts as this
abbrev pub horizon : ℕ
horizon = 2000000

-- the largest number that a lawful row, a longest job or a separation can have
abbrev pub largest_entry : ℕ
largest_entry = 1000000

-- the most work that one row can ask for
abbrev pub most_work : ℕ
most_work = 2000000000000

-- what a kind says of every row
pub record Kind : Type 0 where
  pub fault : List ℕ → ℕ  -- the lowest-numbered entry at fault, from 1 to 8, or 0 where the row is lawful
  pub request : List ℕ → ℕ → ℕ  -- the most work that can arrive in so many ticks
  pub longest : List ℕ → ℕ  -- the longest job
  pub separation : List ℕ → ℕ  -- the least time from one job to the next

-- the laws of a lawful row
pub record Load (k : Kind) (row : List ℕ) : Type 0 where
  pub starts : k.request row 0 ≡ 0
  pub rises : (t u : ℕ) → t ≤ u → k.request row t ≤ k.request row u
  pub bounded : (t : ℕ) → k.request row t ≤ most_work
  pub longest_low : 1 ≤ k.longest row
  pub longest_high : k.longest row ≤ largest_entry
  pub separation_low : 1 ≤ k.separation row
  pub separation_high : k.separation row ≤ largest_entry
  pub first_job : (t : ℕ) → 1 ≤ t → t ≤ k.separation row → k.request row t ≡ k.longest row
  pub small : (i : ℕ) → i < 8 → slice_index row i ≤ largest_entry

-- an unlawful row stands for no work
pub record NoLoad (k : Kind) (row : List ℕ) : Type 0 where
  pub no_request : (t : ℕ) → k.request row t ≡ 0
  pub no_longest : k.longest row ≡ 0
  pub no_separation : k.separation row ≡ 0

-- what every kind keeps
pub record Laws (k : Kind) : Type 0 where
  pub lawful : (row : List ℕ) → k.fault row ≡ 0 → Load k row
  pub unlawful : (row : List ℕ) → k.fault row ≢ 0 → NoLoad k row
  pub entry : (row : List ℕ) → k.fault row ≤ 8
  pub late : (row : List ℕ) (t : ℕ) → k.request row t ≡ k.request row (min t horizon)

-- u is the greatest instant up to the limit at which r is what it is at t
pub record Until (limit : ℕ) (r : ℕ → ℕ) (t u : ℕ) : Type 0 where
  pub within : u ≤ limit
  pub same : r u ≡ r t
  pub greatest : (v : ℕ) → u < v → v ≤ limit → r v ≢ r t

-- the answer to how long a row's request at t lasts: to the greatest such instant within the horizon, 0 on an unlawful row
pub record Lasts (k : Kind) (row : List ℕ) (t u : ℕ) : Type 0 where
  pub lawful : k.fault row ≡ 0 → Until horizon (k.request row) t u
  pub unlawful : k.fault row ≢ 0 → u ≡ 0

-- x where the row is lawful, 0 where it is not
abbrev pub if_lawful : Kind → List ℕ → ℕ → ℕ
if_lawful k row x = if k.fault row == 0 then x else 0

-- a kind from its formulas: they hold for lawful rows up to the horizon; an unlawful row stands for no work
abbrev pub guarded : Kind → Kind
guarded k = record {
  fault = k.fault;
  request = λ row t. if_lawful k row (k.request row (min t horizon));
  longest = λ row. if_lawful k row (k.longest row);
  separation = λ row. if_lawful k row (k.separation row);
}
