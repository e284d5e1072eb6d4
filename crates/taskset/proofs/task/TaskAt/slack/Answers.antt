use Rattle.std.proofs.Common.{ℕ, ◌+◌, List, ℤ, sym, ap, ◌∙◌, subst, arith, w64, SFits, to_z, of_z, rules}
use mir.Syntax.{w128}
use Rattle.std.proofs.lemmas.Int.{to_z-of_z}
use Rattle.loads.specs.Kind.{Kind}
use Rattle.analysis.specs.Instants.{slack_of}
use Rattle.ledger.specs.Instants.{above, job}
use Rattle.ledger.specs.Ledger.{Ledger, task}
use Rattle.table.specs.Tables.{ledger}
use Rattle.taskset.proofs.Bounds.{slack_fits, longest_bounded}
use Rattle.taskset.proofs.Reckoned.{above_at, ap₃}
use Rattle.taskset.proofs.task.TaskAt.slack.Goals as goal
use Rattle.taskset.proofs.task.TaskAt.slack.Goals.{After-slack}
use Rattle.taskset.proofs.task.TaskAt.slack.Given.{Over}

small : (g : Over) (c : After-slack g) → SFits w64 c.slack.result
small g c =
    let level = c.level.result in
    let me = c.args.self.now in
    let short = longest_bounded (g.K.LoadKind.means me.kind.now) (g.met.K.LoadKind.laws me.kind.now) (task (ledger me.table.now) (me.at + 1)).row in
    slack_fits (g.K.LoadKind.means level.kind.now) (g.met.K.LoadKind.laws level.kind.now) (g.S.Supply.gives level.supply.now) (g.met.S.Supply.laws level.supply.now) level.above.now c.longest.result c.deadline.result c.slack.result c.level.ensures.few (omega (arith, c.longest.ensures, short)) c.slack.ensures.greatest

large : (g : Over) (c : After-slack g) → SFits w128 c.slack.result
large g c = search rules

pub overflow_cast-result : goal.overflow_cast-result
overflow_cast-result g c = subst (λ (z : ℤ). SFits w64 z) (sym (to_z-of_z w128 c.slack.result (large g c))) (small g c)

pub returns : goal.returns
returns g c =
    let me = c.args.self.now in
    let k : Kind = g.K.LoadKind.means me.kind.now in
    let s : ℕ → ℕ = g.S.Supply.gives me.supply.now in
    let l : Ledger = ledger me.table.now in
    ap (λ (z : ℤ). to_z w64 (of_z w64 z)) (to_z-of_z w128 c.slack.result (large g c))
    ∙ to_z-of_z w64 c.slack.result (small g c)
    ∙ c.slack.ensures.is
    ∙ ap₃ (λ k' s' rows. slack_of (g.K.LoadKind.means k') (g.S.Supply.gives s') rows c.longest.result c.deadline.result) c.level.ensures.kind c.level.ensures.supply c.level.ensures.above
    ∙ ap (λ (rows : List (List ℕ)). slack_of k s rows c.longest.result c.deadline.result) (above_at l me.at)
    ∙ ap (λ (n : ℕ). slack_of k s (above l (me.at + 1)) n c.deadline.result) c.longest.ensures
    ∙ ap (λ (d : ℕ). slack_of k s (above l (me.at + 1)) (job k l (me.at + 1)) d) c.deadline.ensures
