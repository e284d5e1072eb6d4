use Rattle.loads.proofs.JitteredUntils.{until_zero, until_some}
use Rattle.loads.proofs.jittered.JitteredByFormulas.until_of_lawful.Goals as goal

pub returns-then-t-eq0 : goal.returns-then-t-eq0
returns-then-t-eq0 g c =
    until_zero (g.K.LoadKind.means c.args.self.now.below) (g.met.K.LoadKind.laws c.args.self.now.below) c.args.row.now c.requires.lawful c.args.t c.if-t-eq0.true

pub returns : goal.returns
returns g c =
    let below = c.args.self.now.below in
    until_some (g.K.LoadKind.means below) (g.met.K.LoadKind.laws below) c.args.row.now c.requires.lawful c.without_jitter.result c.args.t c.until-last.result c.without_jitter.ensures c.if-t-eq0.false c.until-last.ensures.lawful c.if-last-eq-HORIZON.false
