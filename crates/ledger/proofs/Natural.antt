-- Natural ceilings: the smallest position that uses a resource, the table of them, and that it fits.
use Rattle.std.proofs.Common.{◌≡◌, ℕ, zero, suc, ◌-◌, ◌<◌, ◌≤◌, ltb, List, [], ◌∷◌, length, get_or, refl, arith}
use Rattle.std.proofs.lemmas.Bool.{cond_both, lt-ltb, ltb-true}
use Rattle.analysis.proofs.Extremes.{by_lt}
use Rattle.ledger.specs.Ledger.{Task, Ledger, task, no_task, section, mark}
use Rattle.ledger.specs.Ceilings.{natural, natural_table, one_later, ceiling, Fits}
use Rattle.ledger.proofs.Largest.{resource_at}
use Rattle.ledger.proofs.Lowering.{allowed_le, allowed_pos, natural_allowed}

later_suc : (n : ℕ) → 1 ≤ n → one_later n ≡ suc n
later_suc zero h = absurd (omega arith)
later_suc (suc n) h = refl

later_pos : (n : ℕ) → 1 ≤ one_later n → 1 ≤ n
later_pos zero h = h
later_pos (suc n) h = omega arith

-- no user of the resource is above the natural ceiling
pub natural_before : (xs : List Task) (j q : ℕ) → 0 < section (get_or xs q no_task) j → (1 ≤ natural xs j) × (natural xs j ≤ suc q)
natural_before [] j q h = absurd (omega arith)
natural_before (x ∷ xs) j zero h = rw (lt-ltb 0 (section x j) h) (omega arith)
natural_before (x ∷ xs) j (suc q) h =
    let (low, high) = natural_before xs j q h in
    cond_both (ltb 0 (section x j)) 1 (one_later (natural xs j)) (λ v. (1 ≤ v) × (v ≤ suc (suc q))) (λ _. omega arith) (λ _. rw (later_suc (natural xs j) low) (omega arith))

-- and at it there is one
pub natural_user : (xs : List Task) (j : ℕ) → 1 ≤ natural xs j → (natural xs j ≤ length xs) × (0 < section (get_or xs (natural xs j - 1) no_task) j)
natural_user [] j h = absurd (omega arith)
natural_user (x ∷ xs) j h =
    cond_both (ltb 0 (section x j)) 1 (one_later (natural xs j)) (λ v. 1 ≤ v → (v ≤ suc (length xs)) × (0 < section (get_or (x ∷ xs) (v - 1) no_task) j))
    (λ e low. (omega arith, ltb-true 0 (section x j) e))
    (λ e low.
    let (within, used) = natural_user xs j (later_pos (natural xs j) low) in
    let up : one_later (natural xs j) ≡ suc (natural xs j) = later_suc (natural xs j) (later_pos (natural xs j) low) in
    let here : one_later (natural xs j) - 1 ≡ suc (natural xs j - 1) = omega (arith, later_pos (natural xs j) low) in
    (omega arith, rw here used))
    h

pub natural_within : (xs : List Task) (j : ℕ) → natural xs j ≤ length xs
natural_within xs j = by_lt 0 (natural xs j) (λ some. (natural_user xs j some).0) (λ none. omega arith)

-- ---- the table of natural ceilings

pub natural_at : (l : Ledger) (j : ℕ) → 1 ≤ j → j ≤ 16 → ceiling (natural_table l) j ≡ natural l.tasks j
unfolding natural_table
natural_at l j jl jh = resource_at (natural l.tasks) 0 j jl jh

pub natural_size : (l : Ledger) → length (natural_table l) ≡ 16
unfolding natural_table
natural_size l = refl

pub natural_fits : (l : Ledger) → Fits l (natural_table l)
natural_fits l = record {
  size = natural_size l;
  allowed = λ j jl jh. rw (natural_at l j jl jh) (natural_allowed (mark l j) (natural l.tasks j));
}

-- every ceiling of a table that fits is the position of a task, or 0
pub ceiling_within : (l : Ledger) (c : List ℕ) → Fits l c → (j : ℕ) → 1 ≤ j → j ≤ 16 → ceiling c j ≤ length l.tasks
ceiling_within l c fits j jl jh =
    omega (arith, allowed_le (mark l j) (natural l.tasks j) (ceiling c j) (fits.allowed j jl jh), natural_within l.tasks j)

-- no user of a resource is above its ceiling
pub user_ceiling : (l : Ledger) (c : List ℕ) → Fits l c → (j p : ℕ) → 1 ≤ j → j ≤ 16 → 1 ≤ p → 0 < section (task l p) j → (1 ≤ ceiling c j) × (ceiling c j ≤ p)
user_ceiling l c fits j p jl jh low used =
    let (some, before) = natural_before l.tasks j (p - 1) used in
    let may = fits.allowed j jl jh in
    let under = allowed_le (mark l j) (natural l.tasks j) (ceiling c j) may in
    (allowed_pos (mark l j) (natural l.tasks j) (ceiling c j) may some, omega arith)
