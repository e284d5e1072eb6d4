-- Ceilings of resources, tables of them that fit, and the blocking that they bring.
use Rattle.std.specs.Prelude.{◌≡◌, ℕ, zero, suc, ◌-◌, ◌≤◌, max, Bool, if◌then◌else◌, ◌&&◌, List, [], ◌∷◌, map, length, drop, nat_le, nat_lt, slice_index}
use Rattle.ledger.specs.declared.edit.Mark.{Mark}
use Rattle.ledger.specs.declared.edit.Mark.TheVariants.{Kept, Lowered}
use Rattle.ledger.specs.Ledger.{Task, Ledger, section, mark}

-- the largest value of f over a list, 0 where it is empty
abbrev pub most : {A : Type 0} → (A → ℕ) → List A → ℕ
most f [] = 0
most f (x ∷ xs) = max (f x) (most f xs)

-- the sixteen resources
abbrev pub resources : List ℕ
resources = 1 ∷ 2 ∷ 3 ∷ 4 ∷ 5 ∷ 6 ∷ 7 ∷ 8 ∷ 9 ∷ 10 ∷ 11 ∷ 12 ∷ 13 ∷ 14 ∷ 15 ∷ 16 ∷ []

-- a position counted in a list that has one task more in front; 0 stays no position
abbrev pub one_later : ℕ → ℕ
one_later zero = 0
one_later (suc n) = suc (suc n)

-- the natural ceiling: the smallest position that uses the resource, 0 where none does
abbrev pub natural : List Task → ℕ → ℕ
natural [] j = 0
natural (x ∷ xs) j = if nat_lt 0 (section x j) then 1 else one_later (natural xs j)

-- the ceiling that a table has for a resource
abbrev pub ceiling : List ℕ → ℕ → ℕ
ceiling c j = slice_index c (j - 1)

-- the table of natural ceilings
unfoldable pub natural_table : Ledger → List ℕ
natural_table l = map (natural l.tasks) resources

-- what a table may have for a resource, by its mark and its natural ceiling
abbrev pub Allowed : Mark → ℕ → ℕ → Type 0
Allowed Kept n x = x ≡ n
Allowed Lowered zero x = x ≡ 0
Allowed Lowered (suc n) x = (1 ≤ x) × (x ≤ suc n)

-- a table of ceilings fits: it has what it may for each resource
pub record Fits (l : Ledger) (c : List ℕ) : Type 0 where
  pub size : length c ≡ 16
  pub allowed : (j : ℕ) → 1 ≤ j → j ≤ 16 → Allowed (mark l j) (natural l.tasks j) (ceiling c j)

-- a section on the resource can block position i
abbrev pub blocks : List ℕ → ℕ → ℕ → Bool
blocks c i j = nat_le 1 (ceiling c j) && nat_le (ceiling c j) i

-- the longest section of a task that can block position i
unfoldable pub obstacle : List ℕ → ℕ → Task → ℕ
obstacle c i x = most (λ j. if blocks c i j then section x j else 0) resources

-- the blocking: the longest section of a task below position i that can block it
abbrev pub blocking : Ledger → List ℕ → ℕ → ℕ
blocking l c i = most (obstacle c i) (drop i l.tasks)

-- the longest section on a resource of a task below position i
abbrev pub longest_below : Ledger → ℕ → ℕ → ℕ
longest_below l j i = most (λ x. section x j) (drop i l.tasks)
