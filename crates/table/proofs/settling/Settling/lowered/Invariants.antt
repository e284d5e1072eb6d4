use Rattle.std.proofs.Common.{◌≡◌, ◌+◌, ◌-◌, ◌≤◌}
use Rattle.ledger.specs.Settled.{slack_at, bears, lower}
use Rattle.table.specs.Tables.{ledger}
use Rattle.table.proofs.settling.Settling.lowered.Given as goal

abbrev pub invariant-loop-ceiling : goal.invariant-loop-ceiling
invariant-loop-ceiling l =
    let by = lower (bears (slack_at l.self.slacks.now) (ledger l.self.table.now) (l.j + 1)) in
    record { below : l.ceiling ≤ l.from; same : by l.from ≡ by l.ceiling }

abbrev pub decreases-loop-ceiling : goal.decreases-loop-ceiling
decreases-loop-ceiling l = l.ceiling - 1
