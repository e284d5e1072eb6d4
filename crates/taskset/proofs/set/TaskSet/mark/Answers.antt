use Rattle.std.proofs.Common.{Ok, refl}
use Rattle.ledger.specs.declared.edit.Edit.TheVariants.{Mark as Marked}
use Rattle.taskset.proofs.Left.{left_on, left_alike, edited_set, refused_first}
use Rattle.taskset.proofs.Steps.{Turn, taken}
use Rattle.taskset.proofs.set.TaskSet.mark.Goals as goal
use Rattle.taskset.proofs.set.TaskSet.mark.Goals.{After-settle}
use Rattle.taskset.proofs.set.TaskSet.mark.Given.{Over}

pub returns-in_err-mark : goal.returns-in_err-mark
returns-in_err-mark g c =
    refused_first g.K.LoadKind g.S.Supply c.args.self.now _ refl refl c.in_err-mark.ensures.unsettled (Marked c.args.resource c.args.mark) c.in_err-mark.field-0.0 c.from_residual.result c.from_residual.ensures.1 c.in_err-mark.ensures.entered.0

turn : (g : Over) (c : After-settle g) → Turn (g.K.LoadKind.means c.args.self.now.kind) (g.S.Supply.gives c.args.self.now.supply) (Marked c.args.resource c.args.mark) (Ok tt) c.args.self.now.table c.settle.new.table
turn g c =
    let said = c.in_ok-mark.ensures in
    taken (g.K.LoadKind.means c.args.self.now.kind) (g.S.Supply.gives c.args.self.now.supply) (g.met.K.LoadKind.laws c.args.self.now.kind) (Marked c.args.resource c.args.mark) c.args.self.now.table c.mark.new.self c.settle.new.table said.entered.1 (λ _. said.entered.0) c.settle.ensures

pub returns : goal.returns
returns g c = edited_set _ _ _ _ _ _ refl refl tt (turn g c.before)

pub invariant_of-self : goal.invariant_of-self
invariant_of-self g c =
    let now = c.args.self.now in
    record { left = left_alike (g.K.LoadKind.means now.kind) (g.S.Supply.gives now.supply) now.table now.left c.mark.new.self c.in_err-mark.ensures.unsettled }

pub invariant_of-self-2 : goal.invariant_of-self-2
invariant_of-self-2 g c =
    let now = c.args.self.now in
    record { left = left_on (g.K.LoadKind.means now.kind) (g.S.Supply.gives now.supply) now.table now.left (Marked c.args.resource c.args.mark) (Ok tt) c.settle.new.table (turn g c).1 }
