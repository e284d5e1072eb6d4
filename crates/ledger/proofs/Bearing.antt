-- What a table, and a ledger, can bear.
use Rattle.std.proofs.Common.{ℕ, ◌<◌, ◌≤◌, List, length, pos, ◌≤ℤ◌}
use Rattle.loads.specs.Kind.{Kind}
use Rattle.ledger.specs.Ledger.{Ledger, task, section}
use Rattle.ledger.specs.Ceilings.{ceiling}
use Rattle.ledger.specs.Instants.{slack}

-- every section that can block position i is at most b
abbrev pub BlockedBy : Ledger → List ℕ → ℕ → ℕ → Type 0
BlockedBy l c i b = (p j : ℕ) → i < p → p ≤ length l.tasks → 1 ≤ j → j ≤ 16 → 1 ≤ ceiling c j → ceiling c j ≤ i → section (task l p) j ≤ b

module _ (k : Kind) (s : ℕ → ℕ) where
  -- every section on resource j below position i is at most the slack there
  abbrev pub Bears : Ledger → ℕ → ℕ → Type 0
  Bears l j i = (p : ℕ) → i < p → p ≤ length l.tasks → pos (section (task l p) j) ≤ℤ slack k s l i

  -- no slack is below 0, and each resource by itself is borne from its ceiling on
  pub record Borne (l : Ledger) (c : List ℕ) : Type 0 where
    pub slack_left : (i : ℕ) → 1 ≤ i → i ≤ length l.tasks → pos 0 ≤ℤ slack k s l i
    pub borne : (j : ℕ) → 1 ≤ j → j ≤ 16 → 1 ≤ ceiling c j → (i : ℕ) → ceiling c j ≤ i → i ≤ length l.tasks → Bears l j i

  -- no slack is below 0, and each resource is borne from each of its users on
  pub record Bearable (l : Ledger) : Type 0 where
    pub slack_left : (i : ℕ) → 1 ≤ i → i ≤ length l.tasks → pos 0 ≤ℤ slack k s l i
    pub borne : (j u i : ℕ) → 1 ≤ j → j ≤ 16 → 1 ≤ u → 0 < section (task l u) j → u ≤ i → i ≤ length l.tasks → Bears l j i
