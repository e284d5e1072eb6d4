use Rattle.std.proofs.Common.{arith}
use Rattle.analysis.proofs.Serving.{none_covered, none_by_some, none_until, covered_at}
use Rattle.analysis.proofs.level.Level.first_instant.Goals as goal

pub instants-preserved : goal.instants-preserved
instants-preserved g c =
    let level = c.args.self.now in
    let reached = c.in-Some.ensures in
    record {
      from = omega arith;
      to = reached.within;
      before = none_until (g.met.K.LoadKind.laws level.kind.now) (g.met.S.Supply.laws level.supply.now) level.above.now c.args.base _ c.instants.invariant.before c.loop-row.invariant reached;
    }

pub returns-then-asked-gt-LAST_INSTANT : goal.returns-then-asked-gt-LAST_INSTANT
returns-then-asked-gt-LAST_INSTANT g c =
    let level = c.args.self.now in
    none_by_some (g.met.K.LoadKind.laws level.kind.now) (g.met.S.Supply.laws level.supply.now) level.above.now c.args.base _ c.instants.invariant.before c.loop-row.invariant _ c.if-asked-gt-LAST_INSTANT.true

pub returns-in-None : goal.returns-in-None
returns-in-None g c =
    let level = c.args.self.now in
    none_covered (g.met.K.LoadKind.laws level.kind.now) (g.met.S.Supply.laws level.supply.now) level.above.now c.args.base _ c.instants.invariant.before c.loop-row.invariant _ c.in-None.ensures

pub returns-in-Some : goal.returns-in-Some
returns-in-Some g c =
    let level = c.args.self.now in
    covered_at (g.met.K.LoadKind.laws level.kind.now) (g.met.S.Supply.laws level.supply.now) level.above.now c.args.base _ c.instants.invariant.before c.loop-row.invariant _ c.loop-row-test.false c.in-Some.ensures c.if-u-t.true c.instants.invariant.from (omega arith)
