-- What the slacks of a table's tasks bear, by the indices of the tasks.
use Rattle.std.proofs.Common.{◌≡◌, ℕ, suc, ◌+◌, ◌-◌, ◌<◌, ◌≤◌, Bool, false, T, List, length, get_or, set, true, refl, ℤ, pos, sym, ap, ◌∙◌, subst, add-sub_cancel, arith}
use lib.Signed.{le_z, le_z_yes}
use Rattle.std.specs.Bool.{MatchBool}
use Rattle.std.specs.List.{AllWithin, HoldsAt, range_with_len}
use Rattle.std.specs.Prelude.{IsTrue, ◌↔◌}
use Rattle.std.proofs.lemmas.Bool.{false≢true}
use Rattle.std.proofs.lemmas.List.FromFn.{length-range_with_len, get_or-range_with_len}
use Rattle.table.proofs.FlatTasks.{length_tasks}
use Rattle.ledger.specs.declared.edit.Mark.TheVariants.{Lowered}
use Rattle.ledger.specs.Ceilings.{natural, natural_table, longest_below, blocking}
use Rattle.ledger.specs.Ledger.{Ledger, mark}
use Rattle.ledger.proofs.Lowering.{lower_more, lower_stops, lower_ends}
use Rattle.ledger.specs.Settled.{slack_at, lower, bears, settled, lowest, lowest_table, NaturallyBorne}
use Rattle.ledger.proofs.Lowest.{lowest_at, lowest_size}
use Rattle.table.proofs.Running.{Filled, filled_more, filled_all}

module _ (slacks : List ℤ) (l : Ledger) where
  -- a ceiling goes down past the position above it, or stays, as the task of that position bears the sections below or not, by its index
  pub bears_above : (j x longest : ℕ) (b : Bool) → 1 < x → longest ≡ longest_below l j (x - 1) → b ≡ le_z (pos longest) (get_or slacks (x - 2) (pos 0)) → bears (slack_at slacks) l j (x - 1) ≡ b
  bears_above j x longest b h is answer =
      let index : x - 2 ≡ x - 1 - 1 = omega arith in
      sym (answer ∙ ap (λ n. le_z (pos n) (get_or slacks (x - 2) (pos 0))) is ∙ ap (λ n. le_z (pos (longest_below l j (x - 1))) (get_or slacks n (pos 0))) index)

  pub goes_down : (j x longest : ℕ) (b : Bool) → 1 < x → longest ≡ longest_below l j (x - 1) → b ≡ le_z (pos longest) (get_or slacks (x - 2) (pos 0)) → b ≡ true → lower (bears (slack_at slacks) l j) x ≡ lower (bears (slack_at slacks) l j) (x - 1)
  goes_down j x longest b h is answer passes =
      let up : x ≡ suc (x - 1) = omega arith in
      ap (lower (bears (slack_at slacks) l j)) up ∙ lower_more (bears (slack_at slacks) l j) (x - 1) (omega arith) (bears_above j x longest b h is answer ∙ passes)

  pub stays : (j x longest : ℕ) (b : Bool) → 1 < x → longest ≡ longest_below l j (x - 1) → b ≡ le_z (pos longest) (get_or slacks (x - 2) (pos 0)) → b ≡ false → lower (bears (slack_at slacks) l j) x ≡ x
  stays j x longest b h is answer fails =
      let up : x ≡ suc (x - 1) = omega arith in
      ap (lower (bears (slack_at slacks) l j)) up ∙ lower_stops (bears (slack_at slacks) l j) (x - 1) (omega arith) (bears_above j x longest b h is answer ∙ fails) ∙ sym up

  -- and it stays where it is the first
  pub ends : (j x : ℕ) → x ≤ 1 → lower (bears (slack_at slacks) l j) x ≡ x
  ends j x h = lower_ends (bears (slack_at slacks) l j) x h

  -- a table of lowest ceilings, filled resource by resource
  pub lowest_more : (j v : ℕ) (c : List ℕ) → j < 16 → v ≡ settled (get_or l.marks j Lowered) (bears (slack_at slacks) l (j + 1)) (natural l.tasks (j + 1)) → Filled 16 0 (lowest (slack_at slacks) l) j c → Filled 16 0 (lowest (slack_at slacks) l) (j + 1) (set c j v)
  lowest_more j v c within is so_far =
      let here : get_or l.marks j Lowered ≡ mark l (j + 1) = ap (λ n. get_or l.marks n Lowered) (sym (add-sub_cancel j 1)) in
      filled_more 16 0 (lowest (slack_at slacks) l) j v c within (is ∙ ap (λ m. settled m (bears (slack_at slacks) l (j + 1)) (natural l.tasks (j + 1))) here) so_far

  pub lowest_all : (n : ℕ) (c : List ℕ) → 16 ≤ n → Filled 16 0 (lowest (slack_at slacks) l) n c → c ≡ lowest_table (slack_at slacks) l
  lowest_all n c whole so_far = filled_all (lowest (slack_at slacks) l) n c (lowest_table (slack_at slacks) l) whole so_far (lowest_size (slack_at slacks) l) (lowest_at (slack_at slacks) l)

  -- the task with index i bears its blocking under the natural ceilings
  abbrev pub borne : ℕ → Bool
  borne i = le_z (pos (blocking l (natural_table l) (i + 1))) (get_or slacks i (pos 0))

  -- what asking it of each task by its index says
  pub naturally_borne : (n : ℕ) (b : Bool) → n ≡ length l.tasks → MatchBool b (AllWithin (λ i. borne i ≡ true) (range_with_len 0 n) 0 (length (range_with_len 0 n))) ((k : ℕ) × (k < length (range_with_len 0 n)) × HoldsAt (λ i. borne i ≡ false) (range_with_len 0 n) k) →
      IsTrue b ↔ NaturallyBorne (slack_at slacks) l
  naturally_borne n true whole all = (
    λ _ p low high.
        let here : get_or (range_with_len 0 n) (p - 1) 0 ≡ p - 1 = get_or-range_with_len 0 n (p - 1) 0 (omega arith) ∙ omega arith in
        let bears_it : borne (p - 1) ≡ true = subst (λ i. borne i ≡ true) here (all (p - 1) 0 (omega arith) (omega (arith, length-range_with_len 0 n))) in
        let position : p - 1 + 1 ≡ p = omega arith in
        le_z_yes (subst (λ q. T (le_z (pos (blocking l (natural_table l) q)) (get_or slacks (p - 1) (pos 0)))) position (subst T (sym bears_it) tt)),
    λ _. refl,
  )
  naturally_borne n false whole (k, within, fails) =
      let below : k < n = omega (arith, length-range_with_len 0 n) in
      let here : get_or (range_with_len 0 n) k 0 ≡ k = get_or-range_with_len 0 n k 0 below ∙ omega arith in
      let cannot : borne k ≡ false = subst (λ i. borne i ≡ false) here (fails 0) in
      (λ e. absurd (false≢true e), λ each. absurd (subst T cannot (rw (add-sub_cancel k 1) at (each (k + 1) (omega arith) (omega arith))).le))

pub ruleset lowering = (length_tasks, goes_down, stays, ends)

pub ruleset filling = (lowest_more, lowest_all)
