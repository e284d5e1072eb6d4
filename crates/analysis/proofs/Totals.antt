-- Requests of several rows together: bounds, one row more, and how they rise.
use Rattle.std.proofs.Common.{◌≡◌, ℕ, ◌+◌, ◌^◌, ◌<◌, ◌≤◌, List, [], ◌∷◌, ◌++◌, length, get_or, take, ap, ⊎_elim, arith, take_all}
use Rattle.std.proofs.lemmas.List.Sums.{sum_by-take-le, sum_by-le, sum_by-le-sum_by, sum_by-append}
use Rattle.std.proofs.lemmas.Bool.{cases_eq}
use Rattle.loads.specs.Kind.{Kind, Laws, Load, NoLoad, most_work}
use Rattle.analysis.specs.Instants.{requests, most_requested}

module _ (k : Kind) where
  -- one row more at the end
  pub requests_push : (rows : List (List ℕ)) (row : List ℕ) (t : ℕ) → requests k (rows ++ row ∷ []) t ≡ requests k rows t + k.request row t
  requests_push rows row t = omega (arith, sum_by-append (λ row. k.request row t) rows (row ∷ []))

  -- all rows
  pub requests_all : (rows : List (List ℕ)) (i t : ℕ) → length rows ≤ i → requests k (take i rows) t ≡ requests k rows t
  requests_all rows i t h = ap (λ some. requests k some t) (take_all i rows h)

  pub requests_of_some : (rows : List (List ℕ)) (i t : ℕ) → requests k (take i rows) t ≤ requests k rows t
  requests_of_some rows i t = sum_by-take-le (λ row. k.request row t) rows i

  module _ (laws : Laws k) where
    -- a row is lawful, or it stands for no work
    either_way : {P : Type 0} (row : List ℕ) → (Load k row → P) → (NoLoad k row → P) → P
    either_way row lawful unlawful =
        ⊎_elim
        (λ (yes' : k.fault row ≡ 0). lawful (laws.lawful row yes'))
        (λ (no' : k.fault row ≡ 0 → ⊥). unlawful (laws.unlawful row no'))
        (cases_eq (k.fault row) 0)

    pub request_bounded : (row : List ℕ) (t : ℕ) → k.request row t ≤ most_work
    request_bounded row t = either_way row (λ load. load.bounded t) (λ none. omega (arith, none.no_request t))

    pub request_rises : (row : List ℕ) (t u : ℕ) → t ≤ u → k.request row t ≤ k.request row u
    request_rises row t u h = either_way row (λ load. load.rises t u h) (λ none. omega (arith, none.no_request t))

    pub requests_rise : (rows : List (List ℕ)) (t u : ℕ) → t ≤ u → requests k rows t ≤ requests k rows u
    requests_rise rows t u h = sum_by-le-sum_by (λ row. k.request row t) (λ row. k.request row u) rows (λ row. request_rises row t u h)

    -- no slice of rows asks for more
    pub requests_small : (rows : List (List ℕ)) (t : ℕ) → length rows < 2 ^ 64 → requests k rows t ≤ most_requested
    requests_small rows t few = omega (arith, sum_by-le (λ row. k.request row t) most_work rows (λ i none here. request_bounded (get_or rows i none) t))
