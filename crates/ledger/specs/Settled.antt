-- The table of lowest ceilings, from the slack of each position; and whether the slacks bear the natural ceilings.
use Rattle.std.specs.Prelude.{ℕ, zero, suc, ◌-◌, ◌≤◌, Bool, true, false, List, map, length, ℤ, pos, ◌≤ℤ◌, int_le, slice_index_or}
use Rattle.ledger.specs.declared.edit.Mark.{Mark}
use Rattle.ledger.specs.declared.edit.Mark.TheVariants.{Kept, Lowered}
use Rattle.ledger.specs.Ledger.{Ledger, mark}
use Rattle.ledger.specs.Ceilings.{natural, natural_table, resources, longest_below, blocking}

-- from n down, as long as the next lower number is at least 1 and passes the test
abbrev pub lower : (ℕ → Bool) → ℕ → ℕ
lower p zero = 0
lower p (suc zero) = 1
lower p (suc (suc n)) = elim (p (suc n)) [ true ↦ lower p (suc n) | false ↦ suc (suc n) ]

-- a kept resource stays at its natural ceiling n, any other is lowered from there
abbrev pub settled : Mark → (ℕ → Bool) → ℕ → ℕ
settled Kept p n = n
settled Lowered p n = lower p n

-- the slack of each position, from a list of them
abbrev pub slack_at : List ℤ → ℕ → ℤ
slack_at slacks i = slice_index_or slacks (i - 1) (pos 0)

module _ (slacks : ℕ → ℤ) (l : Ledger) where
  -- position i can bear every section on resource j below it
  abbrev pub bears : ℕ → ℕ → Bool
  bears j i = int_le (pos (longest_below l j i)) (slacks i)

  -- the lowest ceiling of a resource: the natural one where it is kept, else lowered past one position after another up to the first that cannot bear it
  abbrev pub lowest : ℕ → ℕ
  lowest j = settled (mark l j) (bears j) (natural l.tasks j)

  -- the lowest ceilings
  unfoldable pub lowest_table : List ℕ
  lowest_table = map lowest resources

  -- every position can bear its blocking under the natural ceilings
  abbrev pub NaturallyBorne : Type 0
  NaturallyBorne = (i : ℕ) → 1 ≤ i → i ≤ length l.tasks → pos (blocking l (natural_table l) i) ≤ℤ slacks i
