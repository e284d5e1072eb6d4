-- What the calls on a set answer of its tasks and resources.
use Rattle.std.specs.Prelude.{◌≡◌, ℕ, ◌+◌, ◌<◌, ◌≤◌, List, ℤ, pos, ◌≤ℤ◌, Ok, Err, Result}
use Rattle.loads.specs.Kind.{Kind}
use Rattle.loads.specs.declared.kind.LoadKind.{Ghosts as Kinds}
use Rattle.supplies.specs.declared.supply.Supply.{Ghosts as Supplies}
use Rattle.ledger.specs.declared.fault.SetFault.{SetFault}
use Rattle.ledger.specs.declared.fault.SetFault.TheVariants.{Position, Resource}
use Rattle.ledger.specs.Ceilings.{natural, ceiling, blocking}
use Rattle.ledger.specs.Instants.{slack, first_instant, FirstInstant, held_for, hold, Held}
use Rattle.ledger.specs.Ledger.{Task, Ledger, task, section}
use Rattle.ledger.specs.Questions.{AtTask, AtResource}
use Rattle.table.specs.Tables.{ledger, held}
use Rattle.taskset.specs.declared.set.TaskSet.{TaskSet}
use Rattle.taskset.specs.declared.task.TaskAt.{TaskAt}

-- ---- by a ledger and a table of ceilings

module _ (k : Kind) (s : ℕ → ℕ) (l : Ledger) (c : List ℕ) where
  -- the figures of the task at a position: its blocking, its slack and its first instant
  pub record TaskFigures (p : ℕ) (x : ℕ × ℤ × ℕ) : Type 0 where
    pub at : AtTask l p
    pub blocking : x.0 ≡ blocking l c p
    pub slack : x.1 ≡ slack k s l p
    pub first : x.2 ≡ first_instant k s l c p

  -- the answer about the task at a position
  abbrev pub OfTask : ℕ → Result (ℕ × ℤ × ℕ) SetFault → Type 0
  OfTask p (Ok x) = TaskFigures p x
  OfTask p (Err f) = (AtTask l p → ⊥) × (f ≡ Position)

  -- the figures of a resource: its natural ceiling, its held ceiling, which is at most the natural one, and its hold time
  pub record ResourceFigures (j : ℕ) (x : ℕ × ℕ × ℕ) : Type 0 where
    pub at : AtResource j
    pub natural : x.0 ≡ natural l.tasks j
    pub ceiling : x.1 ≡ ceiling c j
    pub low : x.1 ≤ x.0
    pub hold : x.2 ≡ hold k s l c j

  -- the answer about a resource
  abbrev pub OfResource : ℕ → Result (ℕ × ℕ × ℕ) SetFault → Type 0
  OfResource j (Ok x) = ResourceFigures j x
  OfResource j (Err f) = (AtResource j → ⊥) × (f ≡ Resource)

  -- a served task: its blocking is within its slack, and its first instant is one, with none earlier
  abbrev pub ServedTask : ℕ → Result (ℕ × ℤ × ℕ) SetFault → Type 0
  ServedTask p (Ok x) = (pos x.0 ≤ℤ x.1) × FirstInstant k s l c p x.2
  ServedTask p (Err f) = Unit {0}

  -- a served resource: each of its users is through with its section at an instant
  abbrev pub ServedResource : ℕ → Result (ℕ × ℕ × ℕ) SetFault → Type 0
  ServedResource j (Ok x) = (p : ℕ) → AtTask l p → 0 < section (task l p) j → Held k s l c j (task l p)
  ServedResource j (Err f) = Unit {0}

-- ---- of a set, by what the two traits say of its kind and its supply

module _ {K S : Type 0} (kinds : Kinds K) (supplies : Supplies S) (set : TaskSet K S kinds supplies) where
  -- what its kind means
  abbrev its_kind : Kind
  its_kind = kinds.means set.kind

  -- what its supply gives
  abbrev its_supply : ℕ → ℕ
  its_supply = supplies.gives set.supply

  -- what was entered
  abbrev its_ledger : Ledger
  its_ledger = ledger set.table

  -- the ceilings that it holds
  abbrev its_ceilings : List ℕ
  its_ceilings = held set.table

  -- what is answered about the task at a position
  pub record TaskAnswer (p : ℕ) (r : Result (ℕ × ℤ × ℕ) SetFault) : Type 0 where
    pub is : OfTask its_kind its_supply its_ledger its_ceilings p r
    pub served : ServedTask its_kind its_supply its_ledger its_ceilings p r

  -- what is answered about a resource
  pub record ResourceAnswer (j : ℕ) (r : Result (ℕ × ℕ × ℕ) SetFault) : Type 0 where
    pub is : OfResource its_kind its_supply its_ledger its_ceilings j r
    pub served : ServedResource its_kind its_supply its_ledger its_ceilings j r

  -- how long a task may hold a resource
  abbrev pub held_by : ℕ → Task → ℕ
  held_by j x = held_for its_kind its_supply its_ledger its_ceilings j x

  -- the hold time of a resource
  abbrev pub hold_of : ℕ → ℕ
  hold_of j = hold its_kind its_supply its_ledger its_ceilings j

  -- the task at a position, with the set's kind, supply and table; refused where there is none
  abbrev pub At : ℕ → Result (TaskAt K S) SetFault → Type 0
  At p (Ok x) = (p ≡ x.at + 1) × (x.kind.now ≡ set.kind) × (x.supply.now ≡ set.supply) × (x.table.now ≡ set.table)
  At p (Err f) = (AtTask its_ledger p → ⊥) × (f ≡ Position)
