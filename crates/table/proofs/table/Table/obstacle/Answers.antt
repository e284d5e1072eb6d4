use Rattle.std.proofs.Common.{get_or, refl, rules, tests}
use Rattle.std.specs.List.{filter, range_with_len}
use Rattle.std.proofs.lemmas.Iterator.{YieldsList-from_range}
use Rattle.std.proofs.lemmas.Iterator.Consumers.{YieldsList-at, YieldsList-from_filter}
use Rattle.ledger.specs.Ledger.{no_task}
use Rattle.table.specs.Tables.{ledger}
use Rattle.table.proofs.Chains.{can_block, most_by_fold, obstacle_of}
use Rattle.table.proofs.table.Table.obstacle.Goals as goal

pub returns : goal.returns
returns c =
    let x = get_or (ledger c.args.self.now).tasks c.args.at no_task in
    let test = can_block c.args.ceilings.now c.args.position in
    obstacle_of c.args.ceilings.now c.args.position x c.fold.result (most_by_fold (λ j. get_or x.lengths j 0) (filter test (range_with_len 0 16)) c.fold.result c.fold.ensures.ran
    (YieldsList-from_filter _ test (YieldsList-at c.filter.ensures.source (YieldsList-from_range 0 16 16 refl refl)) c.filter.ensures.closure (λ j b q k. search (rules, tests)))
    (λ n j y q k. search rules))
