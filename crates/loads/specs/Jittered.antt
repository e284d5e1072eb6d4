-- The jittered kind, over any kind: a job may be ready up to J ticks late. Entry 8 is J; the kind below gets the row with 0 there.
use Rattle.std.specs.Prelude.{ℕ, ◌+◌, ◌-◌, if◌then◌else◌, List, ◌==◌, nat_lt, slice_index, slice_set}
use Rattle.loads.specs.Kind.{Kind, guarded}

-- the jitter J
abbrev pub jitter : List ℕ → ℕ
jitter row = slice_index row 7

-- the row that the kind below gets
abbrev pub row_below : List ℕ → List ℕ
row_below row = slice_set row 7 0

-- faults below come first; then the jitter must be less than the separation below
abbrev pub jittered_fault : Kind → List ℕ → ℕ
jittered_fault k row =
    if k.fault (row_below row) == 0 then (if nat_lt (jitter row) (k.separation (row_below row)) then 0 else 8)
    else k.fault (row_below row)

-- all jobs that arrive within t + J ticks can become ready within t
abbrev pub jittered_formulas : Kind → Kind
jittered_formulas k = record {
  fault = jittered_fault k;
  request = λ row t. if t == 0 then 0 else k.request (row_below row) (t + jitter row);
  longest = λ row. k.longest (row_below row);
  separation = λ row. k.separation (row_below row) - jitter row;
}

-- what the jittered kind over another says of every row
abbrev pub jittered : Kind → Kind
jittered k = guarded (jittered_formulas k)
