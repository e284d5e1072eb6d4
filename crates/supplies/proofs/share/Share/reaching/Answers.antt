use Rattle.std.proofs.Common.{subst, sym, arith}
use Rattle.supplies.specs.Supplied.{When}
use Rattle.supplies.specs.Shares.{share}
use Rattle.supplies.specs.LawProofs.Formulas.{when_at}
use Rattle.supplies.specs.LawProofs.Rounds.{reached, before}
use Rattle.supplies.proofs.share.Share.reaching.Goals as goal

pub returns : goal.returns
returns c =
    let s = c.args.self.now in
    let w = c.args.w in
    subst (When (share s.budget s.period) w) (sym c.then_some.ensures) (when_at _ w _ (omega (arith, reached s.budget s.period s.some s.part w c.requires.low)) (before s.budget s.period s.some s.part w c.requires.low))
