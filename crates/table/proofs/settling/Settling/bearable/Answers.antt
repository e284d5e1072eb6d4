use Rattle.std.proofs.Common.{◌≡◌, true, false, refl, arith, rules}
use Rattle.std.proofs.lemmas.Iterator.{cases_from_all, YieldsList-from_range}
use Rattle.table.specs.Tables.{ledger}
use Rattle.table.proofs.Bearings.{borne, naturally_borne}
use Rattle.table.proofs.settling.Settling.bearable.Goals as goal

pub returns : goal.returns
returns c =
    let s = c.args.self.now in
    let test = borne s.slacks.now (ledger s.table.now) in
    naturally_borne s.slacks.now (ledger s.table.now) c.count.result c.all.result c.count.ensures.is (cases_from_all _ _ c.all.result (λ i. test i ≡ true) (λ i. test i ≡ false) c.all.ensures.ran (YieldsList-from_range 0 c.count.result c.count.result refl (omega arith)) (λ i q k. search rules) (λ i q k. search rules))
