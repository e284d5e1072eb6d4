use Rattle.std.proofs.Common.{arith, rules}
use Rattle.analysis.specs.Levels.{level_left_over}
use Rattle.analysis.proofs.Extremes.{largest_unique}
use Rattle.analysis.proofs.Leftovers.{first_stretch, next_stretch, whole_range}
use Rattle.analysis.proofs.level.Level.slack.Goals as goal

pub loop-end-init : goal.loop-end-init
loop-end-init g c =
    let level = c.args.self.now in
    let most = first_stretch (g.met.K.LoadKind.laws level.kind.now) (g.met.S.Supply.laws level.supply.now) level.above.now c.args.longest (omega arith) (omega arith) c.stretch_end.ensures c.min-end.ensures (omega arith) in
    search rules

pub loop-end-preserved : goal.loop-end-preserved
loop-end-preserved g c =
    let level = c.args.self.now in
    let most = next_stretch (g.met.K.LoadKind.laws level.kind.now) (g.met.S.Supply.laws level.supply.now) level.above.now c.args.longest (omega arith) (omega arith) c.stretch_end-in-loop-end.ensures c.min-end-in-loop-end.ensures (omega arith) c.loop-end.invariant in
    search rules

pub returns : goal.returns
returns g c =
    let level = c.args.self.now in
    let most = whole_range (g.met.K.LoadKind.laws level.kind.now) (g.met.S.Supply.laws level.supply.now) level.above.now c.args.longest {deadline = c.args.deadline} (omega arith) c.loop-end-test.false c.loop-end.invariant in
    record { is = largest_unique (level_left_over g.K.LoadKind.means g.S.Supply.gives level c.args.longest) 1 c.args.deadline _ most; greatest = most }
