use Rattle.analysis.proofs.Stretches.{never_changes}
use Rattle.analysis.proofs.level.Level.unchanged_until.Goals as goal

pub returns-then-until-t : goal.returns-then-until-t
returns-then-until-t g c = never_changes (g.met.K.LoadKind.laws c.args.self.now.kind.now) c.args.row.now c.args.t c.until-until.result c.until-until.ensures c.if-until-t.true
