use Rattle.taskset.proofs.Reckoned.{settled_by}
use Rattle.taskset.proofs.reckoning.settle.Goals as goal

pub returns : goal.returns
returns g c =
    settled_by (g.K.LoadKind.means c.args.kind.now) (g.S.Supply.gives c.args.supply.now) c.args.table.now c.settle.new.self c.slacks-slacks.result c.slacks-slacks.ensures c.settle.ensures.ledger c.settle.ensures.held
