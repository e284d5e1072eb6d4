-- The lowest entry at fault, as a relation: all entries below it pass, and it does not.
use Rattle.std.specs.Prelude.{◌≡◌, ℕ, zero, suc, ◌<◌, ◌≤◌, max, Bool, true, false}
use Rattle.std.proofs.Math.Path.{refl, ap}
use Rattle.std.proofs.Common.{◌∙◌}
use Rattle.std.proofs.Math.Logic.{⊎_elim}
use native.Mathlib.Omega.{arith}
use Rattle.std.proofs.lemmas.Bool.{cases_lt}
use Rattle.loads.specs.Rows.{lowest, or_entry}

or_entry_zero : (m : ℕ) (b : Bool) (i : ℕ) → or_entry m b i ≡ 0 → (m ≡ 0) × (b ≡ true)
or_entry_zero zero true i e = (refl, refl)
or_entry_zero zero false i e = absurd (omega arith)
or_entry_zero (suc m) b i e = absurd (omega arith)

or_entry_le : (m : ℕ) (b : Bool) (i : ℕ) → or_entry m b i ≤ max m (suc i)
or_entry_le zero true i = omega arith
or_entry_le zero false i = omega arith
or_entry_le (suc m) b i = omega arith

module _ (p : ℕ → Bool) where
  pub lowest_all : (n : ℕ) → ((i : ℕ) → i < n → p i ≡ true) → lowest p n ≡ 0
  unfolding lowest
  lowest_all zero all = refl
  lowest_all (suc n) all =
      let before : lowest p n ≡ 0 = lowest_all n (λ i h. all i (omega arith)) in
      let here : p n ≡ true = all n (omega arith) in
      ap (λ m. or_entry m (p n) n) before ∙ ap (λ b. or_entry 0 b n) here

  pub lowest_first : (n i : ℕ) → i < n → p i ≡ false → ((j : ℕ) → j < i → p j ≡ true) → lowest p n ≡ suc i
  unfolding lowest
  lowest_first zero i h fails below = absurd (omega arith)
  lowest_first (suc n) i h fails below =
      ⊎_elim
      (λ (less : i < n). ap (λ m. or_entry m (p n) n) (lowest_first n i less fails below))
      (λ (more : n ≤ i).
      let same : i ≡ n = omega arith in
      let before : lowest p n ≡ 0 = lowest_all n (λ j u. below j (omega arith)) in
      let here : p n ≡ false = ap p (omega arith) ∙ fails in
      ap (λ m. or_entry m (p n) n) before ∙ ap (λ b. or_entry 0 b n) here ∙ ap suc (omega arith))
      (cases_lt i n)

  pub lowest_passes : (n : ℕ) → lowest p n ≡ 0 → (i : ℕ) → i < n → p i ≡ true
  unfolding lowest
  lowest_passes zero e i h = absurd (omega arith)
  lowest_passes (suc n) e i h =
      let parts = or_entry_zero (lowest p n) (p n) n e in
      ⊎_elim
      (λ (less : i < n). lowest_passes n parts.0 i less)
      (λ (more : n ≤ i). ap p (omega arith) ∙ parts.1)
      (cases_lt i n)

  pub lowest_le : (n : ℕ) → lowest p n ≤ n
  unfolding lowest
  lowest_le zero = omega arith
  lowest_le (suc n) = omega (arith, lowest_le n, or_entry_le (lowest p n) (p n) n)
