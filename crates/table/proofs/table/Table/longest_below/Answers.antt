use Rattle.std.proofs.Common.{◌+◌, get_or, sym, rules}
use Rattle.ledger.specs.Ledger.{section, no_task}
use Rattle.table.specs.Tables.{ledger, length_at}
use Rattle.table.proofs.Chains.{most_by_fold_in_range}
use Rattle.table.proofs.Users.{section_is}
use Rattle.table.proofs.table.Table.longest_below.Goals as goal

pub returns : goal.returns
returns c =
    let tasks = (ledger c.args.self.now).tasks in
    most_by_fold_in_range (λ x. section x (c.args.j + 1)) tasks no_task (λ at. length_at tasks at c.args.j) c.args.position c.count.result c.fold.result c.fold.ensures.ran (λ n x y q k. search rules) c.count.ensures.is (λ i low high. sym (section_is (get_or tasks i no_task) c.args.j))
