use Rattle.ledger.specs.Settled.{slack_at, lowest}
use Rattle.table.specs.Tables.{ledger}
use Rattle.table.proofs.Running.{Filled}
use Rattle.table.proofs.settling.Settling.lowest_ceilings.Given as goal

abbrev pub invariant-loop-j : goal.invariant-loop-j
invariant-loop-j l = Filled 16 0 (lowest (slack_at l.self.slacks.now) (ledger l.self.table.now)) l.j l.ceilings
