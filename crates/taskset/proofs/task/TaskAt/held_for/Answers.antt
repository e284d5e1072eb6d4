use Rattle.std.proofs.Common.{ℕ, ◌+◌, ◌-◌, unwrap_or, get_or, ap, ◌∙◌, arith}
use Rattle.supplies.specs.Supplied.{last_instant}
use Rattle.analysis.specs.Instants.{first_covered}
use Rattle.ledger.specs.Ledger.{no_task}
use Rattle.ledger.proofs.Natural.{natural_within}
use Rattle.table.specs.Tables.{ledger, held}
use Rattle.taskset.proofs.Figured.{held_used}
use Rattle.taskset.proofs.Reckoned.{ap₃}
use Rattle.taskset.proofs.task.TaskAt.held_for.Goals as goal

pub level-requires : goal.level-requires
level-requires g c = omega (arith, c.saturating_sub-above.ensures, c.ceiling.ensures.low, natural_within (ledger c.args.self.now.table.now).tasks (c.args.j + 1))

pub returns : goal.returns
returns g c =
    let me = c.args.self.now in
    let l = ledger me.table.now in
    let told = c.unwrap_or.ensures ∙ ap (λ o. unwrap_or o 0) c.first_instant.ensures.is
    ∙ ap₃ (λ k' s' rows. unwrap_or (first_covered (g.K.LoadKind.means k') (g.S.Supply.gives s') rows c.length-length.result last_instant) 0) c.level.ensures.kind c.level.ensures.supply c.level.ensures.above in
    held_used (g.K.LoadKind.means me.kind.now) (g.S.Supply.gives me.supply.now) l (held me.table.now) c.args.j (get_or l.tasks me.at no_task) c.length-length.result c.length-length.ensures c.saturating_sub-above.result c.unwrap_or.result c.if-length-eq0.false (c.saturating_sub-above.ensures ∙ ap (λ (n : ℕ). n - 1) c.ceiling.ensures.is) told
