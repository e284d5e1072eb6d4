-- Tasks from flat arrays: rows, deadlines, and sixteen lengths for each task.
use Rattle.std.specs.Prelude.{ℕ, zero, suc, ◌*◌, List, [], ◌∷◌, take, drop, slice_index, slice_index_or}
use Rattle.ledger.specs.Ledger.{Task}

-- the lengths of the task with index i
abbrev pub sixteen : ℕ → List ℕ → List ℕ
sixteen i sections = take 16 (drop (16 * i) sections)

-- the first n tasks
abbrev pub tasks_of : ℕ → List (List ℕ) → List ℕ → List ℕ → List Task
tasks_of zero rows deadlines sections = []
tasks_of (suc n) rows deadlines sections =
    record { row = slice_index_or rows 0 []; deadline = slice_index deadlines 0; lengths = take 16 sections }
    ∷ tasks_of n (drop 1 rows) (drop 1 deadlines) (drop 16 sections)
