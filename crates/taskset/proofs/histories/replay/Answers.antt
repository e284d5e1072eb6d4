use Rattle.std.proofs.Common.{◌≡◌, length, arith}
use Rattle.taskset.proofs.Replays.{replaying_all}
use Rattle.taskset.proofs.histories.replay.Goals as goal

pub returns : goal.returns
returns g c =
    let told = c.new-set.ensures in
    let end : c.loop-i.i ≡ length c.args.edits.now = omega arith in
    replaying_all g.K.LoadKind g.S.Supply c.args.edits.now c.new-set.result c.args.answers.now c.args.kind c.args.supply told.kind told.supply c.loop-i.set c.loop-i.answers c.loop-i.i end c.loop-i.invariant
