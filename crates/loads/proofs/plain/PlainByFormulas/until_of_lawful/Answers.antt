use Rattle.std.proofs.Common.{rules}
use Rattle.loads.specs.LawProofs.PlainLaws.{plain_periodic}
use Rattle.loads.proofs.Untils.{until_work}
use Rattle.loads.proofs.plain.PlainByFormulas.until_of_lawful.Goals as goal

pub returns : goal.returns
returns c = until_work (plain_periodic c.args.row.now c.requires.lawful) _ c.args.t c.last_before_next.result (search rules) c.last_before_next.ensures
