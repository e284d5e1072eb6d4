use Rattle.std.proofs.Common.{rules}
use Rattle.ledger.specs.Ceilings.{natural, natural_table}
use Rattle.ledger.proofs.Natural.{natural_at, natural_size}
use Rattle.table.specs.Tables.{ledger}
use Rattle.table.proofs.Chains.{made_table}
use Rattle.table.proofs.table.Table.natural_ceilings.Goals as goal

pub returns : goal.returns
returns c =
    let l = ledger c.args.self.now in
    made_table (natural l.tasks) c.from_fn.result (natural_table l) c.from_fn.ensures.items (λ x y q k. search rules) (natural_size l) (natural_at l)
