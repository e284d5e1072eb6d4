use Rattle.std.proofs.Common.{◌≡◌, arith, rules}
use Rattle.analysis.specs.Instants.{requests}
use Rattle.analysis.proofs.Totals.{requests_small}
use Rattle.analysis.proofs.level.Level.requested.Goals as goal

pub returns-clause-small : goal.returns-clause-small
returns-clause-small g c =
    let level = c.args.self.now in
    let k = g.K.LoadKind.means level.kind.now in
    let is : c.sum.result ≡ requests k level.above.now c.args.t = search rules in
    omega (arith, requests_small k (g.met.K.LoadKind.laws level.kind.now) level.above.now c.args.t (omega arith))
