-- A share keeps the laws of supplies, and its two numbers stand in eight columns.
use Rattle.std.specs.Prelude.{ℕ, ◌≤◌}
use Rattle.std.proofs.Common.{arith}
use Rattle.numbers.specs.Columns.{largest_listed}
use Rattle.supplies.specs.LawProofs.Formulas.{formula_laws}
use Rattle.supplies.specs.LawProofs.Rounds.{share_start, share_steady}
use Rattle.supplies.specs.Shares.{longest_period, share}
use Rattle.supplies.specs.Supplied.{Laws}

pub share_laws : (q p : ℕ) → 1 ≤ q → q ≤ p → Laws (share q p)
share_laws q p some part = formula_laws _ (share_start q p some part) (share_steady q p some part)

pub share_listed : (q p : ℕ) → q ≤ p → p ≤ longest_period → (q ≤ largest_listed) × (p ≤ largest_listed)
share_listed q p part brief = (omega arith, omega arith)
