use Rattle.std.proofs.Common.{◌≡◌, ◌<◌, rules, tests}
use Rattle.std.proofs.lemmas.Iterator.{first_from_Range}
use Rattle.table.specs.Tables.{ledger, length_at}
use Rattle.table.proofs.Users.{natural_found}
use Rattle.table.proofs.table.Table.natural.Goals as goal

pub returns : goal.returns
returns c =
    let tasks = (ledger c.args.self.now).tasks in
    natural_found tasks c.args.j c.count.result c.map_or.result c.find.result c.count.ensures.is
    (first_from_Range _ _ _ c.find.result (λ at. 0 < length_at tasks at c.args.j) (λ at. length_at tasks at c.args.j ≡ 0) c.find.ensures.ran (λ at q k. search (rules, tests)) (λ at q k. search (rules, tests)))
    c.map_or.ensures (λ at k. search rules)
