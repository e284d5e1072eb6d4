-- The framed kind (the multiframe model): jobs at least T ticks apart, whose lengths go round a cycle of k frames.
-- Entry 1 is T, entry 2 is k, the next k are the frames, the others are 0.
use Rattle.std.specs.Prelude.{ℕ, zero, suc, ◌+◌, ◌%◌, max, Bool, if◌then◌else◌, List, ◌==◌, nat_lt, slice_index}
use Rattle.numbers.specs.Ranges.{from_to}
use Rattle.numbers.specs.Rounding.{rounded_up}
use Rattle.loads.specs.Kind.{Kind, guarded, largest_entry}
use Rattle.loads.specs.Rows.{lowest}

-- the most frames that a cycle can have
abbrev pub most_frames : ℕ
most_frames = 5

-- how many frames the cycle has
abbrev pub frame_count : List ℕ → ℕ
frame_count row = slice_index row 1

-- the entry with index i may stand in a framed row: the separation and the frames, the count of frames, or nothing
abbrev pub framed_entry : List ℕ → ℕ → Bool
framed_entry row i =
    if i == 1 then from_to 1 most_frames (slice_index row i)
    else (if nat_lt i (2 + frame_count row) then from_to 1 largest_entry (slice_index row i)
    else (slice_index row i == 0))

-- frame number j, from 0, of the endlessly repeated cycle
abbrev pub frame : List ℕ → ℕ → ℕ
frame row j = slice_index row (2 + j % frame_count row)

-- the sum of n consecutive frames, from number s on
abbrev pub frames : List ℕ → ℕ → ℕ → ℕ
frames row s zero = 0
frames row s (suc n) = frames row s n + frame row (s + n)

-- the largest of f 0 to f (n - 1)
abbrev pub largest_of : (ℕ → ℕ) → ℕ → ℕ
largest_of f zero = 0
largest_of f (suc n) = max (largest_of f n) (f n)

-- the largest sum of n consecutive frames, over all starting frames
abbrev pub busiest : List ℕ → ℕ → ℕ
busiest row n = largest_of (λ s. frames row s n) (frame_count row)

-- a frame for each period that has begun, from the worst starting frame
abbrev pub framed_formulas : Kind
framed_formulas = record {
  fault = λ row. lowest (framed_entry row) 8;
  request = λ row t. busiest row (rounded_up t (slice_index row 0));
  longest = λ row. largest_of (frame row) (frame_count row);
  separation = λ row. slice_index row 0;
}

-- what the framed kind says of every row
abbrev pub framed : Kind
framed = guarded framed_formulas
