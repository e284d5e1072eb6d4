use Rattle.std.proofs.Common.{Ok, refl}
use Rattle.ledger.specs.declared.edit.Edit.TheVariants.{Withdraw}
use Rattle.taskset.proofs.Left.{left_on, left_alike, edited_set, refused_first}
use Rattle.taskset.proofs.Steps.{Turn, taken}
use Rattle.taskset.proofs.set.TaskSet.withdraw.Goals as goal
use Rattle.taskset.proofs.set.TaskSet.withdraw.Goals.{After-settle}
use Rattle.taskset.proofs.set.TaskSet.withdraw.Given.{Over}

pub returns-in_err-withdraw : goal.returns-in_err-withdraw
returns-in_err-withdraw g c =
    refused_first g.K.LoadKind g.S.Supply c.args.self.now _ refl refl c.in_err-withdraw.ensures.unsettled (Withdraw c.args.position) c.in_err-withdraw.field-0.0 c.from_residual.result c.from_residual.ensures.1 c.in_err-withdraw.ensures.entered.0

turn : (g : Over) (c : After-settle g) → Turn (g.K.LoadKind.means c.args.self.now.kind) (g.S.Supply.gives c.args.self.now.supply) (Withdraw c.args.position) (Ok tt) c.args.self.now.table c.settle.new.table
turn g c =
    let said = c.in_ok-withdraw.ensures in
    taken (g.K.LoadKind.means c.args.self.now.kind) (g.S.Supply.gives c.args.self.now.supply) (g.met.K.LoadKind.laws c.args.self.now.kind) (Withdraw c.args.position) c.args.self.now.table c.withdraw.new.self c.settle.new.table said.entered.1 (λ _. said.entered.0) c.settle.ensures

pub returns : goal.returns
returns g c = edited_set _ _ _ _ _ _ refl refl tt (turn g c.before)

pub invariant_of-self : goal.invariant_of-self
invariant_of-self g c =
    let now = c.args.self.now in
    record { left = left_alike (g.K.LoadKind.means now.kind) (g.S.Supply.gives now.supply) now.table now.left c.withdraw.new.self c.in_err-withdraw.ensures.unsettled }

pub invariant_of-self-2 : goal.invariant_of-self-2
invariant_of-self-2 g c =
    let now = c.args.self.now in
    record { left = left_on (g.K.LoadKind.means now.kind) (g.S.Supply.gives now.supply) now.table now.left (Withdraw c.args.position) (Ok tt) c.settle.new.table (turn g c).1 }
