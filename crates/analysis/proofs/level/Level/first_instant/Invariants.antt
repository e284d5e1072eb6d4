use Rattle.std.proofs.Common.{◌≡◌, ◌+◌, ◌-◌, ◌≤◌, take}
use Rattle.supplies.specs.Supplied.{last_instant}
use Rattle.analysis.specs.Instants.{requests}
use Rattle.analysis.specs.Levels.{level_covered}
use Rattle.analysis.proofs.Serving.{NoneBefore}
use Rattle.analysis.proofs.level.Level.first_instant.Given as goal

-- what the rows so far ask for is in the sum
abbrev pub invariant-loop-row : goal.invariant-loop-row
invariant-loop-row g l = l.asked ≡ l.base + requests (g.K.LoadKind.means l.self.kind.now) (take l.row-index l.self.above.now) l.t

-- no earlier instant is covered
abbrev pub invariant-instants : goal.invariant-instants
invariant-instants g l = record { from : 1 ≤ l.t; to : l.t ≤ last_instant; before : NoneBefore (level_covered g.K.LoadKind.means g.S.Supply.gives l.self l.base) l.t }

abbrev pub decreases-instants : goal.decreases-instants
decreases-instants g l = last_instant - l.t
