use Rattle.std.proofs.Common.{ℕ, ◌+◌, List, ap, ◌∙◌}
use Rattle.loads.specs.Kind.{Kind}
use Rattle.analysis.specs.Instants.{first_covered}
use Rattle.ledger.specs.Instants.{above, job}
use Rattle.ledger.specs.Ledger.{Ledger}
use Rattle.table.specs.Tables.{ledger}
use Rattle.taskset.proofs.Figured.{cut_off}
use Rattle.taskset.proofs.Reckoned.{above_at, ap₃}
use Rattle.taskset.proofs.task.TaskAt.first_instant.Goals as goal

pub returns : goal.returns
returns g c =
    let me = c.args.self.now in
    let k : Kind = g.K.LoadKind.means me.kind.now in
    let s : ℕ → ℕ = g.S.Supply.gives me.supply.now in
    let l : Ledger = ledger me.table.now in
    let rows : List (List ℕ) = above l (me.at + 1) in
    c.first_instant.ensures.is
    ∙ ap₃ (λ k' s' rows'. first_covered (g.K.LoadKind.means k') (g.S.Supply.gives s') rows' c.saturating_add-base.result c.deadline.result) c.level.ensures.kind c.level.ensures.supply (c.level.ensures.above ∙ above_at l me.at)
    ∙ ap (λ (n : ℕ). first_covered k s rows n c.deadline.result) c.saturating_add-base.ensures
    ∙ cut_off k s (g.met.S.Supply.laws me.supply.now) rows c.longest.result c.args.blocking c.deadline.result
    ∙ ap (λ (n : ℕ). first_covered k s rows (n + c.args.blocking) c.deadline.result) c.longest.ensures
    ∙ ap (λ (d : ℕ). first_covered k s rows (job k l (me.at + 1) + c.args.blocking) d) c.deadline.ensures
