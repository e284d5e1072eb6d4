-- The ledger: what the edits of a set have entered, and nothing that is worked out from it.
use Rattle.std.specs.Prelude.{ℕ, ◌-◌, List, [], ◌∷◌, ◌++◌, map, take, drop, replicate, slice_index, slice_index_or, slice_set}
use Rattle.ledger.specs.declared.edit.Edit.{Edit}
use Rattle.ledger.specs.declared.edit.Edit.TheVariants.{Insert, Withdraw, Section}
use Rattle.ledger.specs.declared.edit.Edit.TheVariants.{Mark as Marked}
use Rattle.ledger.specs.declared.edit.Mark.{Mark}
use Rattle.ledger.specs.declared.edit.Mark.TheVariants.{Lowered}

-- the most tasks that a set can have
abbrev pub most_tasks : ℕ
most_tasks = 32

-- what is entered of one task
pub record Task : Type 0 where
  pub row : List ℕ  -- the eight numbers of its load
  pub deadline : ℕ
  pub lengths : List ℕ  -- its longest section on each of the sixteen resources, 0 where it uses none

-- what is entered of all
pub record Ledger : Type 0 where
  pub tasks : List Task  -- by position, the most urgent first
  pub marks : List Mark  -- by resource

-- what stands where there is no task
abbrev pub no_task : Task
no_task = record { row = []; deadline = 0; lengths = [] }

-- the task at a position; positions and resources count from 1
abbrev pub task : Ledger → ℕ → Task
task l i = slice_index_or l.tasks (i - 1) no_task

-- the rows of all tasks, by position
abbrev pub rows : Ledger → List (List ℕ)
rows l = map (λ x. x.row) l.tasks

-- the longest section of a task on a resource
abbrev pub section : Task → ℕ → ℕ
section x j = slice_index x.lengths (j - 1)

-- the mark of a resource
abbrev pub mark : Ledger → ℕ → Mark
mark l j = slice_index_or l.marks (j - 1) Lowered

-- the ledger of a new set: no task, every resource lowered
abbrev pub empty : Ledger
empty = record { tasks = []; marks = replicate 16 Lowered }

-- a task that has just been put in uses no resource
abbrev pub fresh : List ℕ → ℕ → Task
fresh row deadline = record { row = row; deadline = deadline; lengths = replicate 16 0 }

-- a task with another length for one resource
abbrev pub with_section : Task → ℕ → ℕ → Task
with_section x j n = record { row = x.row; deadline = x.deadline; lengths = slice_set x.lengths (j - 1) n }

-- the ledger after an edit that is taken
abbrev pub edited : Ledger → Edit → Ledger
edited l (Insert p row d) = record { tasks = take (p - 1) l.tasks ++ fresh row d ∷ drop (p - 1) l.tasks; marks = l.marks }
edited l (Withdraw p) = record { tasks = take (p - 1) l.tasks ++ drop p l.tasks; marks = l.marks }
edited l (Section p j n) = record { tasks = slice_set l.tasks (p - 1) (with_section (task l p) j n); marks = l.marks }
edited l (Marked j m) = record { tasks = l.tasks; marks = slice_set l.marks (j - 1) m }
