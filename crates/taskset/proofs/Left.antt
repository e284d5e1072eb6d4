-- What is known of a table because some history of edits has left it.
use Rattle.std.proofs.Math.Logic.{∥∥₁_elim, ∥∥₁_map}
use Rattle.std.proofs.Common.{◌≡◌, refl, sym, subst, IsErrAnd, Err, ℕ, ℤ, [], ◌∷◌, ◌++◌, Ok}
use Rattle.std.proofs.Props.{props}
use Rattle.loads.specs.Kind.{Kind}
use Rattle.loads.specs.declared.kind.LoadKind.{Ghosts as Kinds}
use Rattle.supplies.specs.declared.supply.Supply.{Ghosts as Supplies}
use Rattle.ledger.specs.declared.edit.Edit.{Edit}
use Rattle.ledger.specs.declared.fault.SetFault.{SetFault}
use Rattle.ledger.specs.History.{Answer}
use Rattle.ledger.specs.Questions.{FirstNo, places}
use Rattle.ledger.proofs.Asking.{refused_early}
use Rattle.ledger.specs.Sound.{Sound}
use Rattle.table.specs.declared.table.Table.{Table}
use Rattle.table.specs.Tables.{ledger, held}
use Rattle.taskset.specs.Figures.{OfTask, OfResource, ServedTask, ServedResource}
use Rattle.taskset.specs.declared.set.TaskSet.{TaskSet}
use Rattle.taskset.specs.Sets.{Untouched, GoesOn, Edited}
use Rattle.taskset.specs.Standing.{LeftByEdits}
use Rattle.taskset.proofs.Figured.{served_task, served_resource}
use Rattle.taskset.proofs.Steps.{Turn, passed_on, refused}

module _ (k : Kind) (s : ℕ → ℕ) (t : Table) (left : ∥ LeftByEdits k s t ∥₁) where
  -- its numbers are within their limits
  pub left_sound : Sound k (ledger t)
  left_sound = ∥∥₁_elim left (hlevel props) (λ (es, rs, st). st.sound)

  -- an edit leaves a table that a history has left
  pub left_on : (e : Edit) (a : Answer) (u : Table) → GoesOn k s e a t u → ∥ LeftByEdits k s u ∥₁
  left_on e a u goes_on = ∥∥₁_map left (λ (es, rs, st). (es ++ e ∷ [], rs ++ a ∷ [], goes_on es rs st))

  -- so is a table that is the same
  pub left_alike : (u : Table) → u ≡ t → ∥ LeftByEdits k s u ∥₁
  left_alike u same = subst (λ v. ∥ LeftByEdits k s v ∥₁) (sym same) left

  -- its tasks are served
  pub left_serves_task : (p : ℕ) (x : ℕ × ℤ × ℕ) → OfTask k s (ledger t) (held t) p (Ok x) → ServedTask k s (ledger t) (held t) p (Ok x)
  left_serves_task p x h = ∥∥₁_elim left (hlevel props) (λ (es, rs, st). served_task k s (ledger t) (held t) p x es rs h st)

  -- its resources are free again at an instant
  pub left_serves_resource : (j : ℕ) (x : ℕ × ℕ × ℕ) → OfResource k s (ledger t) (held t) j (Ok x) → ServedResource k s (ledger t) (held t) j (Ok x)
  left_serves_resource j x h = ∥∥₁_elim left (hlevel props) (λ (es, rs, st). served_resource k s (ledger t) (held t) j x es rs h st)

-- an edit of a set, from what it makes of the table
module _ {K S : Type 0} (kinds : Kinds K) (supplies : Supplies S) (e : Edit) (a : Answer) (before after : TaskSet K S kinds supplies) where
  pub edited_set : after.kind ≡ before.kind → after.supply ≡ before.supply → Untouched a before.table after.table → Turn (kinds.means before.kind) (supplies.gives before.supply) e a before.table after.table → Edited kinds supplies e a before after
  edited_set kind supply untouched turn = record {
    kind = kind;
    supply = supply;
    untouched = untouched;
    steps = turn.0 (left_sound (kinds.means before.kind) (supplies.gives before.supply) before.table before.left);
    goes_on = turn.1;
  }

-- a refusal that is passed on leaves the set as it was: its kind, its supply and its table are those of before
module _ {K S : Type 0} (kinds : Kinds K) (supplies : Supplies S) (before after : TaskSet K S kinds supplies) (kind : after.kind ≡ before.kind) (supply : after.supply ≡ before.supply) (same : after.table ≡ before.table) (e : Edit) (f : SetFault) (r : Answer) (failed : IsErrAnd r (λ g. g ≡ f)) where
  pub refused_alike : Turn (kinds.means before.kind) (supplies.gives before.supply) e (Err f) before.table before.table → Edited kinds supplies e r before after
  refused_alike turn =
      let k = kinds.means before.kind in
      let s = supplies.gives before.supply in
      subst (λ a. Edited kinds supplies e a before after) (sym (passed_on r f failed))
      (edited_set kinds supplies e (Err f) before after kind supply same (subst (λ t. Turn k s e (Err f) before.table t) (sym same) turn))

  -- refused at its first questions
  pub refused_first : FirstNo (places (ledger before.table) e) f → Edited kinds supplies e r before after
  refused_first no' = refused_alike (refused _ _ e f before.table (λ _. refused_early _ _ (ledger before.table) e f no'))

module _ {K S : Type 0} (kinds : Kinds K) (supplies : Supplies S) (set : TaskSet K S kinds supplies) (e : Edit) (f : SetFault) (r : Answer) (failed : IsErrAnd r (λ g. g ≡ f)) where
  -- the set itself
  pub refused_set : Turn (kinds.means set.kind) (supplies.gives set.supply) e (Err f) set.table set.table → Edited kinds supplies e r set set
  refused_set = refused_alike kinds supplies set set refl refl refl e f r failed

  pub refused_at_once : FirstNo (places (ledger set.table) e) f → Edited kinds supplies e r set set
  refused_at_once = refused_first kinds supplies set set refl refl refl e f r failed
