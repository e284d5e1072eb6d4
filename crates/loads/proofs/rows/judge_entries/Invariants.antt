use Rattle.std.proofs.Common.{◌≡◌, ℕ, ◌<◌, true}
use Rattle.loads.proofs.rows.judge_entries.Given as goal

-- every entry so far passes
abbrev pub invariant-loop-index : goal.invariant-loop-index
invariant-loop-index g l = (i : ℕ) → i < l.index → g.R.EntryRule.passes l.rule l.row i ≡ true
