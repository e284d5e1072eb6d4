use Rattle.loads.proofs.Untils.{until_next}
use Rattle.loads.proofs.periods.last_before_next.Goals as goal

pub returns : goal.returns
returns c =
    let next = c.next_multiple_of in
    until_next c.args.t c.args.period next.result c.min.result c.requires.low c.requires.within next.ensures.lower_bound next.ensures.upper_bound next.ensures.multiple c.min.ensures
