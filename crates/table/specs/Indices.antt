-- Numbers that count from 1 as indices that count from 0.
use Rattle.std.specs.Prelude.{◌≡◌, ℕ, ◌+◌, ◌<◌, ◌≤◌, Some, None, Option}

-- the index of a number from 1 to last, none for any other number
abbrev pub IndexOf : ℕ → ℕ → Option ℕ → Type 0
IndexOf number last (Some i) = (number ≡ i + 1) × (i < last)
IndexOf number last None = (1 ≤ number) × (number ≤ last) → ⊥
