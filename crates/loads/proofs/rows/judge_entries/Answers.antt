use Rattle.std.proofs.Common.{ℕ, sym, ◌∙◌, add-one, arith}
use Rattle.loads.specs.LawProofs.Lowest.{lowest_all, lowest_first}
use Rattle.loads.proofs.rows.judge_entries.Goals as goal

pub returns-then-not-allows : goal.returns-then-not-allows
returns-then-not-allows g c =
    let p = g.R.EntryRule.passes c.args.rule.now c.args.row.now in
    let i : ℕ = c.loop-index.index in
    (lowest_first p 8 i c.loop-index-test.true (sym c.if-not-allows.ensures) c.loop-index.invariant ∙ sym (add-one i), omega arith)

pub returns : goal.returns
returns g c =
    lowest_all (g.R.EntryRule.passes c.args.rule.now c.args.row.now) 8 (λ i h. c.loop-index.invariant i (omega arith))
