use Rattle.std.proofs.Common.{◌≤◌, Ok, Err, refl, inl, inr, arith}
use Rattle.ledger.specs.declared.edit.Edit.TheVariants.{Section}
use Rattle.ledger.specs.declared.fault.SetFault.TheVariants.{Length}
use Rattle.ledger.specs.Instants.{job}
use Rattle.table.specs.Tables.{ledger}
use Rattle.taskset.proofs.Figured.{job_at}
use Rattle.taskset.proofs.Left.{left_on, edited_set, refused_set, refused_at_once}
use Rattle.taskset.proofs.Steps.{Turn, refused, section_asked}
use Rattle.taskset.proofs.set.TaskSet.section.Goals as goal
use Rattle.taskset.proofs.set.TaskSet.section.Goals.{In_ok-serve}
use Rattle.taskset.proofs.set.TaskSet.section.Given.{Over}

pub returns-in_err-at : goal.returns-in_err-at
returns-in_err-at g c =
    refused_at_once g.K.LoadKind g.S.Supply c.args.self.now (Section c.args.position c.args.resource c.args.length) c.in_err-at.field-0.0 c.from_residual.result c.from_residual.ensures.1 (inl c.in_err-at.ensures)

pub returns-in_err-section : goal.returns-in_err-section
returns-in_err-section g c =
    refused_at_once g.K.LoadKind g.S.Supply c.args.self.now (Section c.args.position c.args.resource c.args.length) c.in_err-section.field-0.0 c.from_residual-in_err-section.result c.from_residual-in_err-section.ensures.1 c.in_err-section.ensures.entered.0

pub returns-then-length-longest : goal.returns-then-length-longest
returns-then-length-longest g c =
    let k = g.K.LoadKind.means c.args.self.now.kind in
    let s = g.S.Supply.gives c.args.self.now.supply in
    let t = c.args.self.now.table in
    let ((at, (resource, _)), _) = c.in_ok-section.ensures.entered in
    let long : c.args.length ≤ job k (ledger t) c.args.position → ⊥ = λ short. omega (arith, c.longest-longest.ensures, job_at g.K.LoadKind g.S.Supply c.args.self.now c.args.position c.in_ok-at.field-0 c.in_ok-at.ensures) in
    let turn = refused k s (Section c.args.position c.args.resource c.args.length) Length t (λ _. inr (at, inr (resource, inl (long, refl)))) in
    edited_set _ _ _ _ _ _ refl refl refl turn

pub returns-in_err-serve : goal.returns-in_err-serve
returns-in_err-serve g c =
    let k = g.K.LoadKind.means c.args.self.now.kind in
    let s = g.S.Supply.gives c.args.self.now.supply in
    let short : c.args.length ≤ job (g.K.LoadKind.means c.args.self.now.kind) (ledger c.args.self.now.table) c.args.position = omega (arith, c.longest-longest.ensures, job_at g.K.LoadKind g.S.Supply c.args.self.now c.args.position c.in_ok-at.field-0 c.in_ok-at.ensures) in
    let turn = section_asked k s (g.met.K.LoadKind.laws c.args.self.now.kind) c.args.position c.args.resource c.args.length c.args.self.now.table c.section.new.self c.serve.new.edited (Err c.in_err-serve.field-0.0) c.in_ok-section.ensures.entered short c.in_err-serve.ensures in
    refused_set g.K.LoadKind g.S.Supply c.args.self.now (Section c.args.position c.args.resource c.args.length) c.in_err-serve.field-0.0 c.from_residual-in_err-serve.result c.from_residual-in_err-serve.ensures.1 turn

turn : (g : Over) (c : In_ok-serve g) → Turn (g.K.LoadKind.means c.args.self.now.kind) (g.S.Supply.gives c.args.self.now.supply) (Section c.args.position c.args.resource c.args.length) (Ok tt) c.args.self.now.table c.serve.new.edited
turn g c =
    let short : c.args.length ≤ job (g.K.LoadKind.means c.args.self.now.kind) (ledger c.args.self.now.table) c.args.position = omega (arith, c.longest-longest.ensures, job_at g.K.LoadKind g.S.Supply c.args.self.now c.args.position c.in_ok-at.field-0 c.in_ok-at.ensures) in
    section_asked (g.K.LoadKind.means c.args.self.now.kind) (g.S.Supply.gives c.args.self.now.supply) (g.met.K.LoadKind.laws c.args.self.now.kind) c.args.position c.args.resource c.args.length c.args.self.now.table c.section.new.self c.serve.new.edited (Ok tt) c.in_ok-section.ensures.entered short c.in_ok-serve.ensures

pub returns : goal.returns
returns g c = edited_set _ _ _ _ _ _ refl refl tt (turn g c.before)

pub invariant_of-self : goal.invariant_of-self
invariant_of-self g c =
    let now = c.args.self.now in
    record { left = left_on (g.K.LoadKind.means now.kind) (g.S.Supply.gives now.supply) now.table now.left (Section c.args.position c.args.resource c.args.length) (Ok tt) c.serve.new.edited (turn g c).1 }
