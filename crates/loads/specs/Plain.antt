-- The plain kind: jobs of at most C ticks, at least T ticks apart. Entry 1 is C, entry 2 is T, the others are 0.
use Rattle.std.specs.Prelude.{ℕ, ◌*◌, Bool, if◌then◌else◌, List, ◌==◌, nat_lt, slice_index}
use Rattle.numbers.specs.Ranges.{from_to}
use Rattle.numbers.specs.Rounding.{rounded_up}
use Rattle.loads.specs.Kind.{Kind, guarded, largest_entry}
use Rattle.loads.specs.Rows.{lowest}

-- the entry with index i may stand in a plain row
abbrev pub plain_entry : List ℕ → ℕ → Bool
plain_entry row i = if nat_lt i 2 then from_to 1 largest_entry (slice_index row i) else (slice_index row i == 0)

-- a job for each period that has begun
abbrev pub plain_formulas : Kind
plain_formulas = record {
  fault = λ row. lowest (plain_entry row) 8;
  request = λ row t. rounded_up t (slice_index row 1) * slice_index row 0;
  longest = λ row. slice_index row 0;
  separation = λ row. slice_index row 1;
}

-- what the plain kind says of every row
abbrev pub plain : Kind
plain = guarded plain_formulas
