-- Arrays that a loop fills, place by place.
use Rattle.std.proofs.Common.{◌≡◌, ℕ, ◌+◌, ◌-◌, ◌<◌, ◌≤◌, List, length, get_or, set, sym, ap, ◌∙◌, subst, ⊎_elim, arith}
use Rattle.std.proofs.lemmas.List.{get_or-set_same, get_or-set_other, length-set}
use Rattle.std.proofs.lemmas.Bool.{cases_eq}
use Rattle.ledger.specs.Ceilings.{ceiling}
use Rattle.ledger.proofs.Largest.{tables_same}

module _ {X : Type 0} (size : ℕ) (d : X) (f : ℕ → X) where
  -- the first n places of an array have the values of f from 1 on
  pub record Filled (n : ℕ) (xs : List X) : Type 0 where
    pub long : length xs ≡ size
    pub filled : (k : ℕ) → k < n → get_or xs k d ≡ f (k + 1)

  pub filled_more : (j : ℕ) (v : X) (xs : List X) → j < size → v ≡ f (j + 1) → Filled j xs → Filled (j + 1) (set xs j v)
  filled_more j v xs h is so_far = record {
    long = length-set xs j v ∙ so_far.long;
    filled = λ k below.
        ⊎_elim
        (λ (same : k ≡ j). subst (λ i. get_or (set xs j v) i d ≡ f (i + 1)) (sym same) (get_or-set_same xs j v d (omega (arith, so_far.long)) ∙ is))
        (λ (other : k ≡ j → ⊥). get_or-set_other xs j k v d other ∙ so_far.filled k (omega arith))
        (cases_eq k j);
  }

-- sixteen places that are filled are a table
pub filled_all : (f : ℕ → ℕ) (n : ℕ) (c e : List ℕ) → 16 ≤ n → Filled 16 0 f n c → length e ≡ 16 → ((j : ℕ) → 1 ≤ j → j ≤ 16 → ceiling e j ≡ f j) → c ≡ e
filled_all f n c e h so_far size each =
    tables_same c e so_far.long size (λ j low high. so_far.filled (j - 1) (omega arith) ∙ ap f (omega arith) ∙ sym (each j low high))
