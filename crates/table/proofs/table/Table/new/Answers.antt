use Rattle.std.proofs.Common.{ℕ, List, [], get_or, ap, ◌∙◌, arith}
use Rattle.table.proofs.Unsettled.{no_number, no_row, unsettled_under}
use Rattle.table.proofs.table.Table.new.Goals as goal

pub invariant_of-result : goal.invariant_of-result
invariant_of-result c = record {
  few = omega arith;
  blank = λ k i h. ap (λ (rows : List (List ℕ)). get_or (get_or rows k []) i 0) c.no_rows.ensures ∙ no_row 32 8 k i;
  undated = λ k h. no_number 32 k;
  unused = λ k h. ap (λ (sections : List ℕ). get_or sections k 0) c.no_sections.ensures ∙ no_number 512 k;
  low = λ j low high. unsettled_under j _;
}
