-- The largest value and the first hit over a range of instants.
use Rattle.std.specs.Prelude.{◌≡◌, ℕ, zero, suc, ◌+◌, ◌<◌, ◌≤◌, max, Bool, true, false, ℤ, ◌≤ℤ◌, Some, None, Option}
use Rattle.std.specs.Int.{int_max}

-- the largest value of f at an instant from a to a + n
abbrev pub largest : (ℕ → ℤ) → ℕ → ℕ → ℤ
largest f a zero = f a
largest f a (suc n) = int_max (largest f a n) (f (a + suc n))

-- z is the value of f at some instant from a to b, and no such instant has a larger one; b counts as a where it is less
pub record Largest (f : ℕ → ℤ) (a b : ℕ) (z : ℤ) : Type 0 where
  pub reached : (t : ℕ) × (a ≤ t) × (t ≤ max a b) × (f t ≡ z)
  pub above : (t : ℕ) → a ≤ t → t ≤ max a b → f t ≤ℤ z

-- the first of n instants from t on that passes the test, none where none does
abbrev pub first : (ℕ → Bool) → ℕ → ℕ → Option ℕ
first p t zero = None
first p t (suc n) = elim (p t) [ true ↦ Some t | false ↦ first p (suc t) n ]

-- t is an instant from 1 to n that passes the test, and none before it does
pub record FirstHit (p : ℕ → Bool) (n t : ℕ) : Type 0 where
  pub from : 1 ≤ t
  pub to : t ≤ n
  pub hit : p t ≡ true
  pub before : (u : ℕ) → 1 ≤ u → u < t → p u ≡ false

-- the answer to which instant from 1 to n is the first that passes: that one, or none where none passes
abbrev pub Earliest : (ℕ → Bool) → ℕ → Option ℕ → Type 0
Earliest p n (Some t) = FirstHit p n t
Earliest p n None = (u : ℕ) → 1 ≤ u → u ≤ n → p u ≡ false
