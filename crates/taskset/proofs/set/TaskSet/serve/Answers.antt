use Rattle.std.proofs.Common.{refl}
use Rattle.std.proofs.lemmas.Bool.Decides.{not_from_Decides}
use Rattle.ledger.specs.Settled.{slack_at}
use Rattle.ledger.proofs.Serving.{servable_by_slacks}
use Rattle.table.specs.Tables.{ledger}
use Rattle.taskset.proofs.Reckoned.{settled_by}
use Rattle.taskset.proofs.set.TaskSet.serve.Goals as goal

pub returns-then-not-bearable : goal.returns-then-not-bearable
returns-then-not-bearable g c =
    let k = g.K.LoadKind.means c.args.self.now.kind in
    let s = g.S.Supply.gives c.args.self.now.supply in
    (refl, refl, λ ok can. not_from_Decides c.bearable.result c.bearable.ensures c.if-not-bearable.true ((servable_by_slacks k s (slack_at c.slacks-slacks.result) (ledger c.args.edited.now) ok c.slacks-slacks.ensures).1 can))

pub returns : goal.returns
returns g c =
    let k = g.K.LoadKind.means c.args.self.now.kind in
    let s = g.S.Supply.gives c.args.self.now.supply in
    let l = ledger c.args.edited.now in (
      settled_by k s c.args.edited.now c.settle.new.self c.slacks-slacks.result c.slacks-slacks.ensures c.settle.ensures.ledger c.settle.ensures.held,
      λ ok. (servable_by_slacks k s (slack_at c.slacks-slacks.result) l ok c.slacks-slacks.ensures).0 (c.bearable.ensures.0 c.if-not-bearable.false),
    )
