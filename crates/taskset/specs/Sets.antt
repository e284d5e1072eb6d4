-- What a set is after a history of edits, and what one edit makes of it.
use Rattle.std.specs.Prelude.{◌≡◌, ℕ, ◌<◌, List, [], ◌∷◌, ◌++◌, length, take, drop, Some, None, Ok, Err, Option}
use Rattle.loads.specs.Kind.{Kind}
use Rattle.loads.specs.declared.kind.LoadKind.{Ghosts as Kinds}
use Rattle.supplies.specs.declared.supply.Supply.{Ghosts as Supplies}
use Rattle.ledger.specs.declared.edit.Edit.{Edit}
use Rattle.ledger.specs.History.{Answer, Step, Law}
use Rattle.table.specs.declared.table.Table.{Table}
use Rattle.table.specs.Tables.{ledger, held}
use Rattle.taskset.specs.declared.set.TaskSet.{TaskSet}
use Rattle.taskset.specs.Standing.{Stands}

-- a refusal leaves the table as it was
abbrev pub Untouched : Answer → Table → Table → Type 0
Untouched (Ok _) before after = Unit {0}
Untouched (Err f) before after = after ≡ before

module _ (k : Kind) (s : ℕ → ℕ) where
  -- an edit, so answered, takes the table that any history has left to the one that this history and the edit leave
  abbrev pub GoesOn : Edit → Answer → Table → Table → Type 0
  GoesOn e a before after = (es : List Edit) (rs : List Answer) → Stands k s es rs before → Stands k s (es ++ e ∷ []) (rs ++ a ∷ []) after

-- for any type of kinds and any type of supplies, with what their traits say of each
module _ {K S : Type 0} (kinds : Kinds K) (supplies : Supplies S) where
  -- what an edit, so answered, makes of a set: the step of its ledger, and of any history that has left it
  pub record Edited (e : Edit) (a : Answer) (before after : TaskSet K S kinds supplies) : Type 0 where
    pub kind : after.kind ≡ before.kind
    pub supply : after.supply ≡ before.supply
    pub untouched : Untouched a before.table after.table
    pub steps : Step (kinds.means before.kind) (supplies.gives before.supply) (ledger before.table) e a (ledger after.table)
    pub goes_on : GoesOn (kinds.means before.kind) (supplies.gives before.supply) e a before.table after.table

  -- a set that has been made and edited, with all answers
  pub record ReplayedSet (kind : K) (supply : S) (es : List Edit) (set : TaskSet K S kinds supplies) (before after : List Answer) : Type 0 where
    pub of_kind : set.kind ≡ kind
    pub of_supply : set.supply ≡ supply
    pub law : Law (kinds.means kind) (supplies.gives supply) es (take (length es) after) (ledger set.table) (held set.table)
    pub rest : drop (length es) after ≡ drop (length es) before

  -- what replaying a list of edits on a new set leaves, and what stands then in the room for answers: all answers, or nothing where there is too little room
  abbrev pub Replayed : K → S → List Edit → Option (TaskSet K S kinds supplies) → List Answer → List Answer → Type 0
  Replayed kind supply es None before after = (length before < length es) × (after ≡ before)
  Replayed kind supply es (Some set) before after = ReplayedSet kind supply es set before after
