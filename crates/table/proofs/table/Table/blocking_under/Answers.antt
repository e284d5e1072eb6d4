use Rattle.std.proofs.Common.{get_or, refl, rules}
use Rattle.ledger.specs.Ceilings.{obstacle}
use Rattle.ledger.specs.Ledger.{no_task}
use Rattle.table.specs.Tables.{ledger}
use Rattle.table.proofs.Chains.{most_by_fold_in_range}
use Rattle.table.proofs.table.Table.blocking_under.Goals as goal

pub returns : goal.returns
returns c =
    let tasks = (ledger c.args.self.now).tasks in
    let f = obstacle c.args.ceilings.now c.args.position in
    most_by_fold_in_range f tasks no_task (λ at. f (get_or tasks at no_task)) c.args.position c.count.result c.fold.result c.fold.ensures.ran (λ n x y q k. search rules) c.count.ensures.is (λ i low high. refl)
