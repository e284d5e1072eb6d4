-- The blocking is at most b exactly when every section that can block is.
use Rattle.std.proofs.Common.{◌≡◌, ℕ, suc, ◌-◌, ◌≤◌, true, cond, leb, List, get_or, arith}
use Rattle.std.proofs.lemmas.Bool.{cond_both, cond-true, and_from, and_parts, le-leb, leb-true}
use Rattle.ledger.specs.Ledger.{Task, Ledger, task, no_task, section}
use Rattle.ledger.specs.Ceilings.{ceiling, blocks, obstacle, blocking}
use Rattle.ledger.proofs.Bearing.{BlockedBy}
use Rattle.ledger.proofs.Largest.{most_drop_le, most_drop_ge, resources_le, resources_ge}

pub blocks_from : (c : List ℕ) (i j : ℕ) → 1 ≤ ceiling c j → ceiling c j ≤ i → blocks c i j ≡ true
blocks_from c i j low high = and_from (leb 1 (ceiling c j)) (leb (ceiling c j) i) (le-leb 1 (ceiling c j) low) (le-leb (ceiling c j) i high)

pub blocks_parts : (c : List ℕ) (i j : ℕ) → blocks c i j ≡ true → (1 ≤ ceiling c j) × (ceiling c j ≤ i)
blocks_parts c i j e =
    let (a, b) = and_parts (leb 1 (ceiling c j)) (leb (ceiling c j) i) e in
    (leb-true 1 (ceiling c j) a, leb-true (ceiling c j) i b)

-- ---- of one task

pub obstacle_ge : (c : List ℕ) (i : ℕ) (x : Task) (j : ℕ) → 1 ≤ j → j ≤ 16 → 1 ≤ ceiling c j → ceiling c j ≤ i → section x j ≤ obstacle c i x
unfolding obstacle
obstacle_ge c i x j jl jh cl ch =
    let here : cond (blocks c i j) (section x j) 0 ≡ section x j = cond-true (blocks c i j) (section x j) 0 (blocks_from c i j cl ch) in
    let one = resources_ge (λ j. cond (blocks c i j) (section x j) 0) j jl jh in
    omega arith

pub obstacle_le : (c : List ℕ) (i : ℕ) (x : Task) (b : ℕ) → ((j : ℕ) → 1 ≤ j → j ≤ 16 → 1 ≤ ceiling c j → ceiling c j ≤ i → section x j ≤ b) → obstacle c i x ≤ b
unfolding obstacle
obstacle_le c i x b h =
    resources_le (λ j. cond (blocks c i j) (section x j) 0) b (λ j jl jh.
    cond_both (blocks c i j) (section x j) 0 (λ v. v ≤ b)
    (λ e. let (cl, ch) = blocks_parts c i j e in h j jl jh cl ch)
    (λ e. omega arith))

-- ---- of all tasks below a position

module _ (l : Ledger) (c : List ℕ) (i : ℕ) where
  -- no section that can block is longer than the blocking
  pub blocking_ge : BlockedBy l c i (blocking l c i)
  blocking_ge p j below within jl jh cl ch =
      let one : section (task l p) j ≤ obstacle c i (task l p) = obstacle_ge c i (task l p) j jl jh cl ch in
      let all : obstacle c i (task l p) ≤ blocking l c i = most_drop_ge (obstacle c i) no_task l.tasks i (p - 1) (omega arith) (omega arith) in
      omega arith

  pub blocking_le : (b : ℕ) → BlockedBy l c i b → blocking l c i ≤ b
  blocking_le b h =
      most_drop_le (obstacle c i) no_task b l.tasks i (λ q low high.
      obstacle_le c i (get_or l.tasks q no_task) b (λ j jl jh cl ch.
      let here : suc q - 1 ≡ q = omega arith in
      rw here at (h (suc q) j (omega arith) (omega arith) jl jh cl ch)))
