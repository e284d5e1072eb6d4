-- The largest value over a list, over a part of it, and over the sixteen resources.
use Rattle.std.proofs.Common.{◌≡◌, ℕ, zero, suc, ◌+◌, ◌-◌, ◌<◌, ◌≤◌, List, [], ◌∷◌, map, length, get_or, drop, ap, ◌∙◌, arith, length-drop}
use Rattle.std.proofs.lemmas.List.{get_or-drop, ext_get_or}
use Rattle.std.proofs.lemmas.List.FromFn.{get_or-map-range_with_len, get_or-range_with_len}
use Rattle.ledger.specs.Ceilings.{most, resources, ceiling}

-- ---- over a list

module _ {A : Type 0} (f : A → ℕ) (d : A) where
  -- a bound of every value is one of the largest
  pub most_le : (b : ℕ) (xs : List A) → ((q : ℕ) → q < length xs → f (get_or xs q d) ≤ b) → most f xs ≤ b
  most_le b [] h = omega arith
  most_le b (x ∷ xs) h =
      let here : f x ≤ b = h 0 (omega arith) in
      let rest : most f xs ≤ b = most_le b xs (λ q u. h (suc q) (omega arith)) in
      omega arith

  -- no value is above the largest
  pub most_ge : (xs : List A) (q : ℕ) → q < length xs → f (get_or xs q d) ≤ most f xs
  most_ge [] q h = absurd (omega arith)
  most_ge (x ∷ xs) zero h = omega arith
  most_ge (x ∷ xs) (suc q) h = let rest = most_ge xs q (omega arith) in omega arith

  -- the same from the place i on
  pub most_drop_le : (b : ℕ) (xs : List A) (i : ℕ) → ((q : ℕ) → i ≤ q → q < length xs → f (get_or xs q d) ≤ b) → most f (drop i xs) ≤ b
  most_drop_le b xs i h = most_le b (drop i xs) (λ q u. rw get_or-drop (h (i + q) (omega arith) (omega (arith, length-drop i xs))))

  pub most_drop_ge : (xs : List A) (i q : ℕ) → i ≤ q → q < length xs → f (get_or xs q d) ≤ most f (drop i xs)
  most_drop_ge xs i q u v =
      let same : i + (q - i) ≡ q = omega arith in
      let here : get_or (drop i xs) (q - i) d ≡ get_or xs q d = get_or-drop i xs (q - i) d ∙ ap (λ n. get_or xs n d) same in
      rw here at (most_ge (drop i xs) (q - i) (omega (arith, length-drop i xs)))

-- ---- over the sixteen resources

-- what a table made of f has for a resource
pub resource_at : {A : Type 0} (f : ℕ → A) (d : A) (j : ℕ) → 1 ≤ j → j ≤ 16 → get_or (map f resources) (j - 1) d ≡ f j
resource_at f d j low high = get_or-map-range_with_len f 1 16 (j - 1) j d (omega arith) (omega arith)

pub resources_le : (g : ℕ → ℕ) (b : ℕ) → ((j : ℕ) → 1 ≤ j → j ≤ 16 → g j ≤ b) → most g resources ≤ b
resources_le g b h = most_le g 0 b resources (λ q u. rw (get_or-range_with_len 1 16 q 0) (h (1 + q) (omega arith) (omega arith)))

pub resources_ge : (g : ℕ → ℕ) (j : ℕ) → 1 ≤ j → j ≤ 16 → g j ≤ most g resources
resources_ge g j low high =
    let here : get_or resources (j - 1) 0 ≡ j = get_or-range_with_len 1 16 (j - 1) 0 (omega arith) ∙ omega arith in
    rw here at (most_ge g 0 resources (j - 1) (omega arith))

-- tables of sixteen that have the same for each resource are the same
pub tables_same : (c d : List ℕ) → length c ≡ 16 → length d ≡ 16 → ((j : ℕ) → 1 ≤ j → j ≤ 16 → ceiling c j ≡ ceiling d j) → c ≡ d
tables_same c d sixteen sixteen' h =
    ext_get_or 0 c d (omega arith) (λ i within.
    let here : suc i - 1 ≡ i = omega arith in
    rw here at (h (suc i) (omega arith) (omega arith)))
