use Rattle.taskset.proofs.Replays.{Replaying}
use Rattle.taskset.proofs.histories.replay.Given as goal

abbrev pub invariant-loop-i : goal.invariant-loop-i
invariant-loop-i g l = Replaying g.K.LoadKind g.S.Supply l.edits l.initial.set l.initial.answers l.set l.answers l.i
