use Rattle.std.proofs.Common.{◌-◌}
use Rattle.analysis.specs.Levels.{level_left_over}
use Rattle.analysis.proofs.Leftovers.{MostUpTo}
use Rattle.analysis.proofs.level.Level.slack.Given as goal

-- the most so far is that up to the end of the stretch
abbrev pub invariant-loop-end : goal.invariant-loop-end
invariant-loop-end g l = MostUpTo (level_left_over g.K.LoadKind.means g.S.Supply.gives l.self l.longest) l.limit l.end l.most

abbrev pub decreases-loop-end : goal.decreases-loop-end
decreases-loop-end g l = l.limit - l.end
