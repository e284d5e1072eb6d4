use Rattle.std.proofs.Common.{◌*◌, [], ◌∷◌, get_or, replicate, ap, ◌∙◌, arith}
use Rattle.table.proofs.Shifted.{past_opened}
use Rattle.table.proofs.Unsettled.{unsettled_under}
use Rattle.table.proofs.table.Table.insert.Goals as goal

pub invariant_of-self : goal.invariant_of-self
invariant_of-self c =
    let t = c.args.self.now in
    let at = c.in_ok-at.at in
    let there = rw c.in_ok-at.ensures.ok_part at c.index_of.ensures in
    record {
      few = omega arith;
      blank = λ k i h. ap (λ row. get_or row i 0) (past_opened t.rows c.enter.new.xs (c.args.row ∷ []) at _ k [] c.enter.ensures (omega arith) (omega arith) (omega arith)) ∙ t.blank k i (omega arith);
      undated = λ k h. past_opened t.deadlines c.enter-2.new.xs (c.args.deadline ∷ []) at _ k 0 c.enter-2.ensures (omega arith) (omega arith) (omega arith) ∙ t.undated k (omega arith);
      unused = λ k h. past_opened t.sections c.enter-3.new.xs (replicate 16 0) (16 * at) _ k 0 c.enter-3.ensures (omega arith) (omega arith) (omega arith) ∙ t.unused k (omega arith);
      low = λ j low high. unsettled_under j _;
    }
