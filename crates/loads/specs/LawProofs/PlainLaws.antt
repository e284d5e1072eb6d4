-- The plain kind keeps the laws of kinds.
use Rattle.std.specs.Prelude.{◌≡◌, ℕ, ◌*◌, ◌<◌, ◌≤◌, List, slice_index, refl}
use Rattle.std.proofs.Common.{sym, arith, zero-mul, one-mul, mul-lt-mul_of_pos_right}
use Rattle.std.proofs.lemmas.Nat.{mul-le}
use Rattle.std.proofs.lemmas.Bool.Decides.{nat_tests}
use Rattle.loads.specs.Kind.{Laws, horizon, largest_entry, most_work}
use Rattle.loads.specs.Plain.{plain, plain_formulas, plain_entry}
use Rattle.loads.specs.LawProofs.Guarded.{Formulas, FormulaLaws, guarded_laws}
use Rattle.loads.specs.LawProofs.Lowest.{lowest_passes, lowest_le}
use Rattle.loads.specs.LawProofs.Periodic.{Periodic, periodic_formulas}

module _ (row : List ℕ) (lawful : plain_formulas.fault row ≡ 0) where
  low : (i : ℕ) → i < 2 → 1 ≤ slice_index row i
  low i h = let passes = lowest_passes (plain_entry row) 8 lawful i (omega arith) in grind (arith, nat_tests)

  high : (i : ℕ) → i < 8 → slice_index row i ≤ largest_entry
  high i h = let passes = lowest_passes (plain_entry row) 8 lawful i h in grind (arith, nat_tests)

  pub plain_periodic : Periodic (λ n. n * slice_index row 0) (slice_index row 1)
  plain_periodic = record {
    period_low = low 1 (omega arith);
    period_high = high 1 (omega arith);
    none = zero-mul (slice_index row 0);
    more = λ m n less. mul-lt-mul_of_pos_right less (low 0 (omega arith));
    bounded = λ n. mul-le n (slice_index row 0) n largest_entry (omega arith) (high 0 (omega arith));
  }

  plain_lawful : Formulas plain_formulas row
  plain_lawful = periodic_formulas _ _ plain_periodic plain_formulas row (λ t. refl) (sym (one-mul (slice_index row 0))) refl high

pub plain_formula_laws : FormulaLaws plain_formulas
plain_formula_laws = record { lawful = plain_lawful; entry = λ row. lowest_le (plain_entry row) 8 }

-- the plain kind keeps the laws of kinds
pub plain_laws : Laws plain
plain_laws = guarded_laws plain_formulas plain_formula_laws

pub separation_low : (row : List ℕ) → plain_formulas.fault row ≡ 0 → 1 ≤ slice_index row 1
separation_low row lawful = (plain_periodic row lawful).period_low

pub separation_high : (row : List ℕ) → plain_formulas.fault row ≡ 0 → slice_index row 1 ≤ largest_entry
separation_high row lawful = (plain_periodic row lawful).period_high

pub request_high : (row : List ℕ) → plain_formulas.fault row ≡ 0 → (t : ℕ) → t ≤ horizon → plain_formulas.request row t ≤ most_work
request_high row lawful = (plain_lawful row lawful).bounded

-- a lawful row's separation and request, for code that counts periods
pub ruleset plain_bounds = (separation_low, separation_high, request_high)
