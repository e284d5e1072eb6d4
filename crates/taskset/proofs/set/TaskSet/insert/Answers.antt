use Rattle.std.proofs.Common.{◌≤◌, Ok, Err, refl, inl, inr, arith}
use Rattle.std.proofs.lemmas.Bool.Decides.{not_from_Decides}
use Rattle.ledger.specs.declared.edit.Edit.TheVariants.{Insert}
use Rattle.ledger.specs.declared.fault.SetFault.TheVariants.{Row, Deadline}
use Rattle.taskset.proofs.Left.{left_on, edited_set, refused_set, refused_at_once}
use Rattle.taskset.proofs.Steps.{Turn, refused, row_refused, insert_asked}
use Rattle.taskset.proofs.set.TaskSet.insert.Goals as goal
use Rattle.taskset.proofs.set.TaskSet.insert.Goals.{In_ok-serve}
use Rattle.taskset.proofs.set.TaskSet.insert.Given.{Over}

pub returns-in_err-insert : goal.returns-in_err-insert
returns-in_err-insert g c =
    refused_at_once g.K.LoadKind g.S.Supply c.args.self.now (Insert c.args.position c.args.row c.args.deadline) c.in_err-insert.field-0.0 c.from_residual.result c.from_residual.ensures.1 c.in_err-insert.ensures.entered.0

pub returns-in_err-lawful : goal.returns-in_err-lawful
returns-in_err-lawful g c =
    let k = g.K.LoadKind.means c.args.self.now.kind in
    let s = g.S.Supply.gives c.args.self.now.supply in
    let t = c.args.self.now.table in
    let fault = c.in_err-lawful.field-0.0 in
    let refusal = row_refused k s c.args.position c.args.row c.args.deadline fault t c.insert.new.self c.in_ok-insert.ensures.entered c.in_err-lawful.ensures in
    refused_set g.K.LoadKind g.S.Supply c.args.self.now (Insert c.args.position c.args.row c.args.deadline) (Row fault) c.from_residual-in_err-lawful.result c.from_residual-in_err-lawful.ensures.1 refusal

pub returns-then-not-from_one_to : goal.returns-then-not-from_one_to
returns-then-not-from_one_to g c =
    let k = g.K.LoadKind.means c.args.self.now.kind in
    let s = g.S.Supply.gives c.args.self.now.supply in
    let ((room, (gap, _)), _) = c.in_ok-insert.ensures.entered in
    let late : (1 ≤ c.args.deadline) × (c.args.deadline ≤ k.separation c.args.row) → ⊥ = λ within. not_from_Decides c.from_one_to.result c.from_one_to.ensures c.if-not-from_one_to.true (within.0, omega (arith, within.1, c.separation.ensures)) in
    let turn = refused k s (Insert c.args.position c.args.row c.args.deadline) Deadline c.args.self.now.table (λ _. inr (room, inr (gap, inr (c.in_ok-lawful.ensures, inl (late, refl))))) in
    edited_set _ _ _ _ _ _ refl refl refl turn

pub returns-in_err-serve : goal.returns-in_err-serve
returns-in_err-serve g c =
    let k = g.K.LoadKind.means c.args.self.now.kind in
    let s = g.S.Supply.gives c.args.self.now.supply in
    let within = c.from_one_to.ensures.0 c.if-not-from_one_to.false in
    let turn = insert_asked k s (g.met.K.LoadKind.laws c.args.self.now.kind) c.args.position c.args.row c.args.deadline c.args.self.now.table c.insert.new.self c.serve.new.edited (Err c.in_err-serve.field-0.0) c.in_ok-insert.ensures.entered c.in_ok-lawful.ensures (within.0, omega (arith, within.1, c.separation.ensures)) c.in_err-serve.ensures in
    refused_set g.K.LoadKind g.S.Supply c.args.self.now (Insert c.args.position c.args.row c.args.deadline) c.in_err-serve.field-0.0 c.from_residual-in_err-serve.result c.from_residual-in_err-serve.ensures.1 turn

turn : (g : Over) (c : In_ok-serve g) → Turn (g.K.LoadKind.means c.args.self.now.kind) (g.S.Supply.gives c.args.self.now.supply) (Insert c.args.position c.args.row c.args.deadline) (Ok tt) c.args.self.now.table c.serve.new.edited
turn g c =
    let within = c.from_one_to.ensures.0 c.if-not-from_one_to.false in
    insert_asked (g.K.LoadKind.means c.args.self.now.kind) (g.S.Supply.gives c.args.self.now.supply) (g.met.K.LoadKind.laws c.args.self.now.kind) c.args.position c.args.row c.args.deadline c.args.self.now.table c.insert.new.self c.serve.new.edited (Ok tt) c.in_ok-insert.ensures.entered c.in_ok-lawful.ensures (within.0, omega (arith, within.1, c.separation.ensures)) c.in_ok-serve.ensures

pub returns : goal.returns
returns g c = edited_set _ _ _ _ _ _ refl refl tt (turn g c.before)

pub invariant_of-self : goal.invariant_of-self
invariant_of-self g c =
    let now = c.args.self.now in
    record { left = left_on (g.K.LoadKind.means now.kind) (g.S.Supply.gives now.supply) now.table now.left (Insert c.args.position c.args.row c.args.deadline) (Ok tt) c.serve.new.edited (turn g c).1 }
