-- Lowering a number by a test: how low it gets, what passes on the way, and that none lower does; and the same for a ceiling by its mark.
use Rattle.std.proofs.Common.{◌≡◌, ℕ, zero, suc, ◌<◌, ◌≤◌, Bool, true, false, refl, ap, ◌∙◌, arith}
use Rattle.std.proofs.lemmas.Bool.{both_ways}
use Rattle.analysis.proofs.Extremes.{by_lt, pick}
use Rattle.ledger.specs.declared.edit.Mark.{Mark}
use Rattle.ledger.specs.declared.edit.Mark.TheVariants.{Kept, Lowered}
use Rattle.ledger.specs.Ceilings.{Allowed}
use Rattle.ledger.specs.Settled.{lower, settled}

-- ---- lowered by a test

module _ (p : ℕ → Bool) where
  pub lower_le : (n : ℕ) → lower p n ≤ n
  lower_le zero = omega arith
  lower_le (suc zero) = omega arith
  lower_le (suc (suc n)) = pick (p (suc n)) (lower p (suc n)) (suc (suc n)) (λ v. v ≤ suc (suc n)) (λ _. omega (arith, lower_le (suc n))) (λ _. omega arith)

  pub lower_pos : (n : ℕ) → 1 ≤ n → 1 ≤ lower p n
  lower_pos zero h = h
  lower_pos (suc zero) h = h
  lower_pos (suc (suc n)) h = pick (p (suc n)) (lower p (suc n)) (suc (suc n)) (λ v. 1 ≤ v) (λ _. lower_pos (suc n) (omega arith)) (λ _. omega arith)

  -- every number from the lowered one on passes
  pub lower_passes : (n i : ℕ) → lower p n ≤ i → i < n → p i ≡ true
  lower_passes zero i low high = absurd (omega arith)
  lower_passes (suc zero) i low high = absurd (omega arith)
  lower_passes (suc (suc n)) i low high =
      pick (p (suc n)) (lower p (suc n)) (suc (suc n)) (λ v. v ≤ i → p i ≡ true)
      (λ e h. by_lt i (suc n) (λ u. lower_passes (suc n) i h u) (λ u. let same : i ≡ suc n = omega arith in rw same e))
      (λ e h. absurd (omega arith))
      low

  -- and there is none such below it
  pub lower_least : (n x : ℕ) → 1 ≤ x → x ≤ n → ((i : ℕ) → x ≤ i → i < n → p i ≡ true) → lower p n ≤ x
  lower_least zero x low high all = omega arith
  lower_least (suc zero) x low high all = omega arith
  lower_least (suc (suc n)) x low high all =
      by_lt x (suc (suc n))
      (λ u. pick (p (suc n)) (lower p (suc n)) (suc (suc n)) (λ v. v ≤ x)
      (λ e. lower_least (suc n) x low (omega arith) (λ i a b. all i a (omega arith)))
      (λ e. absurd (both_ways (p (suc n)) e (all (suc n) (omega arith) (omega arith)))))
      (λ u. omega (arith, lower_le (suc (suc n))))

-- tests that agree below n lower it to the same
pub lower_same : (p q : ℕ → Bool) (n : ℕ) → ((i : ℕ) → 1 ≤ i → i < n → p i ≡ q i) → lower p n ≡ lower q n
lower_same p q zero h = refl
lower_same p q (suc zero) h = refl
lower_same p q (suc (suc n)) h =
    let here : p (suc n) ≡ q (suc n) = h (suc n) (omega arith) (omega arith) in
    let rest : lower p (suc n) ≡ lower q (suc n) = lower_same p q (suc n) (λ i low high. h i low (omega arith)) in
    ap (λ b. elim b [ true ↦ lower p (suc n) | false ↦ suc (suc n) ]) here ∙ ap (λ x. elim (q (suc n)) [ true ↦ x | false ↦ suc (suc n) ]) rest

-- ---- what a table may have, and what a resource is settled at

pub allowed_le : (m : Mark) (n x : ℕ) → Allowed m n x → x ≤ n
allowed_le Kept n x h = omega arith
allowed_le Lowered zero x h = omega arith
allowed_le Lowered (suc n) x h = h.1

pub allowed_pos : (m : Mark) (n x : ℕ) → Allowed m n x → 1 ≤ n → 1 ≤ x
allowed_pos Kept n x h u = omega arith
allowed_pos Lowered zero x h u = absurd (omega arith)
allowed_pos Lowered (suc n) x h u = h.0

pub natural_allowed : (m : Mark) (n : ℕ) → Allowed m n n
natural_allowed Kept n = refl
natural_allowed Lowered zero = refl
natural_allowed Lowered (suc n) = omega arith

pub settled_allowed : (m : Mark) (p : ℕ → Bool) (n : ℕ) → Allowed m n (settled m p n)
settled_allowed Kept p n = refl
settled_allowed Lowered p zero = refl
settled_allowed Lowered p (suc n) = (lower_pos p (suc n) (omega arith), lower_le p (suc n))

-- every number from the settled one on, and below n, passes
pub settled_passes : (m : Mark) (p : ℕ → Bool) (n i : ℕ) → settled m p n ≤ i → i < n → p i ≡ true
settled_passes Kept p n i low high = absurd (omega arith)
settled_passes Lowered p n i low high = lower_passes p n i low high

-- and no such number that the mark allows is below it
pub settled_least : (m : Mark) (p : ℕ → Bool) (n x : ℕ) → Allowed m n x → ((i : ℕ) → x ≤ i → i < n → p i ≡ true) → settled m p n ≤ x
settled_least Kept p n x h all = omega arith
settled_least Lowered p zero x h all = omega arith
settled_least Lowered p (suc n) x h all = lower_least p (suc n) x h.0 h.1 all

pub settled_same : (m : Mark) (p q : ℕ → Bool) (n : ℕ) → ((i : ℕ) → 1 ≤ i → i < n → p i ≡ q i) → settled m p n ≡ settled m q n
settled_same Kept p q n h = refl
settled_same Lowered p q n h = lower_same p q n h

-- one step down, and where it ends
module _ (p : ℕ → Bool) where
  pub lower_more : (y : ℕ) → 1 ≤ y → p y ≡ true → lower p (suc y) ≡ lower p y
  lower_more zero h passes = absurd (omega arith)
  lower_more (suc n) h passes =
      pick (p (suc n)) (lower p (suc n)) (suc (suc n)) (λ v. v ≡ lower p (suc n)) (λ _. refl) (λ fails. absurd (both_ways (p (suc n)) fails passes))

  pub lower_stops : (y : ℕ) → 1 ≤ y → p y ≡ false → lower p (suc y) ≡ suc y
  lower_stops zero h fails = absurd (omega arith)
  lower_stops (suc n) h fails =
      pick (p (suc n)) (lower p (suc n)) (suc (suc n)) (λ v. v ≡ suc (suc n)) (λ passes. absurd (both_ways (p (suc n)) fails passes)) (λ _. refl)

  pub lower_ends : (x : ℕ) → x ≤ 1 → lower p x ≡ x
  lower_ends zero h = refl
  lower_ends (suc zero) h = refl
  lower_ends (suc (suc n)) h = absurd (omega arith)
