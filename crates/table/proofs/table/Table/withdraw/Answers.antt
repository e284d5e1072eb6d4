use Rattle.std.proofs.Common.{◌≡◌, ◌*◌, [], ◌∷◌, get_or, replicate, arith}
use Rattle.table.proofs.Shifted.{past_closed}
use Rattle.table.proofs.Unsettled.{no_number, no_row, unsettled_under}
use Rattle.table.proofs.table.Table.withdraw.Goals as goal

pub invariant_of-self : goal.invariant_of-self
invariant_of-self c =
    let t = c.args.self.now in
    let at = c.in_ok-at.at in
    let there = rw c.in_ok-at.ensures.ok_part at c.index_of.ensures in
    record {
      few = omega arith;
      blank = λ k i h. past_closed (λ row. get_or row i 0 ≡ 0) t.rows c.remove.new.xs (replicate 8 0 ∷ []) at _ k [] c.remove.ensures (omega arith) (omega arith) (λ m. no_row 1 8 m i) (λ m past. t.blank m i (omega arith)) (omega arith);
      undated = λ k h. past_closed (λ deadline. deadline ≡ 0) t.deadlines c.remove-2.new.xs (0 ∷ []) at _ k 0 c.remove-2.ensures (omega arith) (omega arith) (λ m. no_number 1 m) (λ m past. t.undated m (omega arith)) (omega arith);
      unused = λ k h. past_closed (λ length. length ≡ 0) t.sections c.remove-3.new.xs (replicate 16 0) (16 * at) _ k 0 c.remove-3.ensures (omega arith) (omega arith) (λ m. no_number 16 m) (λ m past. t.unused m (omega arith)) (omega arith);
      low = λ j low high. unsettled_under j _;
    }
