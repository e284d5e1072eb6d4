use Rattle.std.proofs.Common.{ℕ, List, [], replicate, sym, refl, subst}
use Rattle.ledger.specs.Ledger.{Ledger}
use Rattle.ledger.specs.History.{After}
use Rattle.ledger.proofs.Histories.{after_start}
use Rattle.table.specs.Tables.{ledger}
use Rattle.taskset.specs.Standing.{Stands}
use Rattle.taskset.proofs.set.TaskSet.new.Goals as goal
use Rattle.taskset.proofs.set.TaskSet.new.Goals.{After-new-table}
use Rattle.taskset.proofs.set.TaskSet.new.Given.{Over}

stands : (g : Over) (c : After-new-table g) → Stands (g.K.LoadKind.means c.args.kind) (g.S.Supply.gives c.args.supply) [] [] c.new-table.result
stands g c =
    let k = g.K.LoadKind.means c.args.kind in
    let s = g.S.Supply.gives c.args.supply in
    let l = ledger c.new-table.result in
    subst (λ (x : List ℕ). After k s [] [] l x) (sym c.new-table.ensures.ceilings) (subst (λ (x : Ledger). After k s [] [] x (replicate 16 0)) (sym c.new-table.ensures.ledger) (after_start k s))

pub returns : goal.returns
returns g c = record { kind = refl; supply = refl; stands = stands g c.before }

pub invariant_of-result : goal.invariant_of-result
invariant_of-result g c = record { left = ∣ ([], [], stands g c) ∣₁ }
