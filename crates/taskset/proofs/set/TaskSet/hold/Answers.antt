use Rattle.std.proofs.Common.{ℕ, ◌+◌, get_or, refl, rules}
use Rattle.ledger.specs.Instants.{held_for}
use Rattle.ledger.specs.Ledger.{Task, no_task}
use Rattle.table.specs.Tables.{ledger, held}
use Rattle.table.proofs.Chains.{most_by_fold_in_range}
use Rattle.taskset.proofs.set.TaskSet.hold.Goals as goal

pub returns : goal.returns
returns g c =
    let set = c.args.self.now in
    let tasks = (ledger set.table).tasks in
    let f : Task → ℕ = held_for (g.K.LoadKind.means set.kind) (g.S.Supply.gives set.supply) (ledger set.table) (held set.table) (c.args.j + 1) in
    most_by_fold_in_range f tasks no_task (λ at. f (get_or tasks at no_task)) 0 c.count.result c.fold.result c.fold.ensures.ran (λ n x y q k. search rules) c.count.ensures.is (λ i low high. refl)
