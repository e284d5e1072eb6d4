use Rattle.table.specs.Tables.{ledger}
use Rattle.taskset.proofs.Reckoned.{Reckoned}
use Rattle.taskset.proofs.reckoning.slacks.Given as goal

abbrev pub invariant-loop-at : goal.invariant-loop-at
invariant-loop-at g l = Reckoned (g.K.LoadKind.means l.kind) (g.S.Supply.gives l.supply) (ledger l.table) l.at l.slacks
