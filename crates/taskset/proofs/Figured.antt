-- The figures of a task and of a resource, from what is read by their indices.
use Rattle.std.proofs.Common.{◌≡◌, ℕ, ◌+◌, ◌-◌, ◌^◌, ◌<◌, ◌≤◌, min, ltb, List, length, get_or, take, ℤ, pos, ◌≤ℤ◌, None, Ok, Option, unwrap_or, sym, ap, ◌∙◌, subst, ⊎_elim, arith}
use Rattle.std.proofs.lemmas.Bool.{cases_lt, lt-leb, lt-ltb, cond-true}
use Rattle.loads.specs.Kind.{Kind}
use Rattle.loads.specs.declared.kind.LoadKind.{Ghosts as Kinds}
use Rattle.supplies.specs.declared.supply.Supply.{Ghosts as Supplies}
use Rattle.supplies.specs.Supplied.{last_instant}
use Rattle.supplies.specs.Supplied.{Laws as SupplyLaws}
use Rattle.analysis.specs.Instants.{work_of, covered, first_covered}
use Rattle.analysis.proofs.Extremes.{earliest_unique}
use Rattle.analysis.proofs.Supplying.{supply_bounded}
use Rattle.ledger.specs.declared.edit.Edit.{Edit}
use Rattle.ledger.specs.Ceilings.{natural, ceiling, blocking}
use Rattle.ledger.specs.History.{Answer, After}
use Rattle.ledger.specs.Instants.{job, slack, covered_with, first_with, first_instant, FirstInstant, through_by, held_for, hold}
use Rattle.ledger.specs.Ledger.{Task, Ledger, rows, section}
use Rattle.ledger.proofs.Histories.{first_instant_is, slack_bears}
use Rattle.table.proofs.Users.{section_is}
use Rattle.table.specs.Tables.{ledger, held}
use Rattle.taskset.specs.declared.set.TaskSet.{TaskSet}
use Rattle.taskset.specs.declared.task.TaskAt.{TaskAt}
use Rattle.taskset.specs.Figures.{At, OfTask, OfResource, ServedTask, ServedResource}
use Rattle.taskset.proofs.Reckoned.{ap₃}

-- ---- sums that would be too large

module _ (k : Kind) (s : ℕ → ℕ) (supply : SupplyLaws s) (above : List (List ℕ)) where
  -- more than any supply gives is never covered
  never_covered : (base limit : ℕ) → last_instant < base → None ≡ first_covered k s above base limit
  never_covered base limit more =
      earliest_unique (covered k s above base) limit None (λ u low high. lt-leb (work_of k above base u) (s u) (omega (arith, supply_bounded s supply u)))

  -- so that a sum may be cut off
  pub cut_off : (a b limit : ℕ) → first_covered k s above (min (a + b) (2 ^ 64 - 1)) limit ≡ first_covered k s above (a + b) limit
  cut_off a b limit =
      ⊎_elim
      (λ (small : a + b < 2 ^ 64). ap (λ n. first_covered k s above n limit) (omega arith))
      (λ (large : 2 ^ 64 ≤ a + b). sym (never_covered (min (a + b) (2 ^ 64 - 1)) limit (omega arith)) ∙ never_covered (a + b) limit (omega arith))
      (cases_lt (a + b) (2 ^ 64))

-- ---- a task

module _ (k : Kind) (s : ℕ → ℕ) (l : Ledger) (c : List ℕ) where
  pub task_figures : (p i b : ℕ) (z : ℤ) (t : ℕ) → p ≡ i + 1 → i < length l.tasks → b ≡ blocking l c (i + 1) → z ≡ slack k s l (i + 1) → t ≡ first_instant k s l c (i + 1) → OfTask k s l c p (Ok (b, z, t))
  task_figures p i b z t is here bs zs ts = subst (λ q. OfTask k s l c q (Ok (b, z, t))) (sym is) (record { at = (omega arith, omega arith); blocking = bs; slack = zs; first = ts })

  pub served_task : (p : ℕ) (x : ℕ × ℤ × ℕ) (es : List Edit) (rs : List Answer) → OfTask k s l c p (Ok x) → After k s es rs l c → ServedTask k s l c p (Ok x)
  served_task p x es rs h st =
      let low = h.at.0 in
      let high = h.at.1 in
      (subst (λ n. pos n ≤ℤ x.1) (sym h.blocking) (subst (λ z. pos (blocking l c p) ≤ℤ z) (sym h.slack) (slack_bears st p low high)), subst (λ t. FirstInstant k s l c p t) (sym h.first) (first_instant_is st p low high))

-- what a set answers about the task at a position, from what the task says itself
module _ {K S : Type 0} (kinds : Kinds K) (supplies : Supplies S) (set : TaskSet K S kinds supplies) where
  -- its longest job
  pub job_at : (p : ℕ) (x : TaskAt K S) → At kinds supplies set p (Ok x) → job (kinds.means x.kind.now) (ledger x.table.now) (x.at + 1) ≡ job (kinds.means set.kind) (ledger set.table) p
  job_at p x (is, kind, supply, table) = ap₃ (λ k u i. job (kinds.means k) (ledger u) i) kind table (sym is)

  -- its figures
  pub figures_at : (p b first : ℕ) (z : ℤ) (t : Option ℕ) (x : TaskAt K S) → At kinds supplies set p (Ok x) → b ≡ blocking (ledger set.table) (held set.table) (x.at + 1) → z ≡ slack (kinds.means x.kind.now) (supplies.gives x.supply.now) (ledger x.table.now) (x.at + 1) → t ≡ covered_with (kinds.means x.kind.now) (supplies.gives x.supply.now) (ledger x.table.now) (x.at + 1) b → first ≡ unwrap_or t 0 → OfTask (kinds.means set.kind) (supplies.gives set.supply) (ledger set.table) (held set.table) p (Ok (b, z, first))
  figures_at p b first z t x (is, kind, supply, table) bs zs ts same =
      task_figures (kinds.means set.kind) (supplies.gives set.supply) (ledger set.table) (held set.table) p x.at b z first is
      (subst (λ u. x.at < length (ledger u).tasks) table x.there)
      bs
      (zs ∙ ap₃ (λ k s u. slack (kinds.means k) (supplies.gives s) (ledger u) (x.at + 1)) kind supply table)
      (same ∙ ap (λ o. unwrap_or o 0) (ts ∙ ap₃ (λ k s u. covered_with (kinds.means k) (supplies.gives s) (ledger u) (x.at + 1) b) kind supply table)
      ∙ ap (first_with (kinds.means set.kind) (supplies.gives set.supply) (ledger set.table) (x.at + 1)) bs)

-- ---- a resource

positive : (n : ℕ) → (n ≡ 0 → ⊥) → 0 < n
positive n some = ⊎_elim (λ (more : 0 < n). more) (λ (none : n ≤ 0). absurd (some (omega arith))) (cases_lt 0 n)

module _ (k : Kind) (s : ℕ → ℕ) (l : Ledger) (c : List ℕ) where
  -- how long a task may hold a resource, by the index of the resource
  module _ (i : ℕ) (x : Task) (length : ℕ) (is : length ≡ get_or x.lengths i 0) where
    here : section x (i + 1) ≡ length
    here = section_is x i ∙ sym is

    pub held_used : (m t : ℕ) → (length ≡ 0 → ⊥) → m ≡ ceiling c (i + 1) - 1 → t ≡ unwrap_or (first_covered k s (take m (rows l)) length last_instant) 0 → t ≡ held_for k s l c (i + 1) x
    held_used m t used high told =
        told
        ∙ ap (λ n. unwrap_or (first_covered k s (take n (rows l)) length last_instant) 0) high
        ∙ ap (λ n. through_by k s l c (i + 1) n) (sym here)
        ∙ sym (cond-true (ltb 0 (section x (i + 1))) (through_by k s l c (i + 1) (section x (i + 1))) 0 (lt-ltb 0 (section x (i + 1)) (subst (λ n. 0 < n) (sym here) (positive length used))))

  pub resource_figures : (j i n h t : ℕ) → j ≡ i + 1 → i < 16 → n ≡ natural l.tasks (i + 1) → h ≡ ceiling c (i + 1) → h ≤ n → t ≡ hold k s l c (i + 1) → OfResource k s l c j (Ok (n, h, t))
  resource_figures j i n h t is here ns hs low ts = subst (λ q. OfResource k s l c q (Ok (n, h, t))) (sym is) (record { at = (omega arith, omega arith); natural = ns; ceiling = hs; low = low; hold = ts })

  pub served_resource : (j : ℕ) (x : ℕ × ℕ × ℕ) (es : List Edit) (rs : List Answer) → OfResource k s l c j (Ok x) → After k s es rs l c → ServedResource k s l c j (Ok x)
  served_resource j x es rs h st = λ p here used. st.held p j here h.at used
