-- Arrays of zeros: nothing is read in them, and ceilings that are to be settled are no larger than any number.
use Rattle.std.proofs.Common.{◌≡◌, ℕ, ◌-◌, ◌<◌, ◌≤◌, List, [], get_or, replicate, ap, ◌∙◌, ⊎_elim, arith}
use Rattle.std.proofs.lemmas.List.{get_or-replicate, get_or_past, length-replicate}
use Rattle.std.proofs.lemmas.Bool.{cases_lt}
use Rattle.ledger.specs.Ceilings.{ceiling}

pub no_number : (n i : ℕ) → ◌≡◌ {A = ℕ} (get_or (replicate n 0) i 0) 0
no_number n i =
    ⊎_elim
    (λ (h : i < n). get_or-replicate n i 0 0 h)
    (λ (h : n ≤ i). get_or_past (replicate n 0) i 0 (omega (arith, length-replicate {A = ℕ} n 0)))
    (cases_lt i n)

pub no_row : (m n k i : ℕ) → ◌≡◌ {A = ℕ} (get_or (get_or (replicate m (replicate n 0)) k []) i 0) 0
no_row m n k i =
    ⊎_elim
    (λ (h : k < m). ap (λ (row : List ℕ). get_or row i 0) (get_or-replicate m k (replicate {A = ℕ} n 0) [] h) ∙ no_number n i)
    (λ (h : m ≤ k). ap (λ (row : List ℕ). get_or row i 0) (get_or_past (replicate m (replicate {A = ℕ} n 0)) k [] (omega (arith, length-replicate m (replicate {A = ℕ} n 0)))))
    (cases_lt k m)

pub unsettled_under : (j x : ℕ) → ceiling (replicate 16 0) j ≤ x
unsettled_under j x = omega (arith, no_number 16 (j - 1))
