use Rattle.std.proofs.Common.{ℤ, ◌∙◌, w64, SFits, to_z, of_z, rules}
use Rattle.std.proofs.lemmas.Int.{to_z-of_z}
use Rattle.taskset.proofs.Figured.{figures_at}
use Rattle.taskset.proofs.Left.{left_serves_task}
use Rattle.taskset.proofs.set.TaskSet.task.Goals as goal
use Rattle.taskset.proofs.set.TaskSet.task.Goals.{After-slack}
use Rattle.taskset.proofs.set.TaskSet.task.Given.{Over}

fits : (g : Over) (c : After-slack g) → SFits w64 c.slack.result
fits g c = search rules

pub returns : goal.returns
returns g c =
    let set = c.args.self.now in
    let z : ℤ = to_z w64 (of_z w64 c.slack.result) in
    let figures = figures_at g.K.LoadKind g.S.Supply set c.args.position c.blocking-blocking.result c.unwrap_or-first.result z c.first_instant.result c.in_ok-task.task c.in_ok-task.ensures c.blocking-blocking.ensures (to_z-of_z w64 c.slack.result (fits g c) ∙ c.slack.ensures) c.first_instant.ensures c.unwrap_or-first.ensures in
    record { is = figures; served = left_serves_task (g.K.LoadKind.means set.kind) (g.S.Supply.gives set.supply) set.table set.left c.args.position (c.blocking-blocking.result, z, c.unwrap_or-first.result) figures }
