use Rattle.std.proofs.Common.{ℕ, ◌≤◌, List, Ok, sym, subst}
use Rattle.ledger.specs.Ledger.{Ledger}
use Rattle.table.specs.Indices.{IndexOf}
use Rattle.table.specs.Tables.{ledger, held}
use Rattle.taskset.specs.Figures.{OfResource}
use Rattle.taskset.proofs.Figured.{resource_figures}
use Rattle.taskset.proofs.Left.{left_serves_resource}
use Rattle.taskset.proofs.set.TaskSet.resource.Goals as goal

pub returns : goal.returns
returns g c =
    let k = g.K.LoadKind.means c.args.self.now.kind in
    let s : ℕ → ℕ = g.S.Supply.gives c.args.self.now.supply in
    let l : Ledger = ledger c.args.self.now.table in
    let ceilings : List ℕ = held c.args.self.now.table in
    let (is, below) = subst (IndexOf c.args.resource 16) c.in_ok-j.ensures.ok_part c.index_of.ensures in
    let low : c.ceiling.result ≤ c.natural.result = subst (λ (n : ℕ). c.ceiling.result ≤ n) (sym c.natural.ensures) c.ceiling.ensures.low in
    let figures : OfResource k s l ceilings c.args.resource (Ok (c.natural.result, c.ceiling.result, c.hold.result)) =
    resource_figures k s l ceilings c.args.resource c.in_ok-j.j c.natural.result c.ceiling.result c.hold.result is below c.natural.ensures c.ceiling.ensures.is low c.hold.ensures in
    record { is = figures; served = left_serves_resource k s c.args.self.now.table c.args.self.now.left c.args.resource (c.natural.result, c.ceiling.result, c.hold.result) figures }
