-- What a table stands for: a ledger and the ceilings that are held.
use Rattle.std.specs.Prelude.{◌≡◌, ℕ, List, map, replicate, Ok, Err, slice_index, slice_index_or}
use Rattle.ledger.specs.History.{Answer}
use Rattle.ledger.specs.Ledger.{Task, Ledger, no_task}
use Rattle.table.specs.Flat.{tasks_of}
use Rattle.table.specs.declared.table.Table.{Table}

-- the ledger of a table
abbrev pub ledger : Table → Ledger
ledger t = record { tasks = tasks_of t.count t.rows t.deadlines t.sections; marks = t.marks }

-- the ceilings that a table holds, by resource
abbrev pub held : Table → List ℕ
held t = t.ceilings

-- what an edit leaves of a table: where it is taken, ceilings that are to be settled; where it is refused, all as it was
abbrev pub Unsettled : Answer → Table → Table → Type 0
Unsettled (Ok _) before after = held after ≡ replicate 16 0
Unsettled (Err f) before after = after ≡ before

-- the deadlines of a ledger's tasks
abbrev pub deadlines : Ledger → List ℕ
deadlines l = map (λ x. x.deadline) l.tasks

-- the length of a section by the indices of its task and resource
abbrev pub length_at : List Task → ℕ → ℕ → ℕ
length_at tasks i j = slice_index (slice_index_or tasks i no_task).lengths j
