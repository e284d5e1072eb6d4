-- The natural ceiling, by the places of the tasks.
use Rattle.std.proofs.Common.{◌≡◌, ℕ, zero, suc, ◌+◌, ◌<◌, true, false, ltb, List, [], ◌∷◌, Option, Some, None, sym, ◌∙◌, ◌≤◌, length, get_or, refl, ap, add-sub_cancel, arith}
use Rattle.std.proofs.lemmas.Bool.{lt-ltb, le-ltb}
use Rattle.std.specs.Option.{MatchOption}
use Rattle.ledger.specs.Ledger.{Task, section}
use Rattle.ledger.specs.Ceilings.{natural}
use Rattle.table.specs.Tables.{length_at}

pub section_is : (x : Task) (j : ℕ) → section x (j + 1) ≡ get_or x.lengths j 0
section_is x j = ap (λ n. get_or x.lengths n 0) (add-sub_cancel j 1)

pub natural_none : (xs : List Task) (j : ℕ) → ((k : ℕ) → k < length xs → length_at xs k j ≡ 0) → natural xs (j + 1) ≡ 0
natural_none [] j h = refl
natural_none (x ∷ xs) j h =
    let here : get_or x.lengths j 0 ≡ 0 = h 0 (omega arith) in
    let test : ltb 0 (section x (j + 1)) ≡ false = le-ltb 0 (section x (j + 1)) (omega (arith, section_is x j)) in
    let rest : natural xs (j + 1) ≡ 0 = natural_none xs j (λ k l. h (suc k) (omega arith)) in
    rw (test, rest)

pub natural_at : (xs : List Task) (j i : ℕ) → ((k : ℕ) → k < i → length_at xs k j ≡ 0) → i < length xs → 0 < length_at xs i j → natural xs (j + 1) ≡ suc i
natural_at [] j i h l u = absurd (omega arith)
natural_at (x ∷ xs) j zero h l u =
    let test : ltb 0 (section x (j + 1)) ≡ true = lt-ltb 0 (section x (j + 1)) (omega (arith, section_is x j)) in
    rw test
natural_at (x ∷ xs) j (suc i) h l u =
    let here : get_or x.lengths j 0 ≡ 0 = h 0 (omega arith) in
    let test : ltb 0 (section x (j + 1)) ≡ false = le-ltb 0 (section x (j + 1)) (omega (arith, section_is x j)) in
    let rest : natural xs (j + 1) ≡ suc i = natural_at xs j i (λ k q. h (suc k) (omega arith)) (omega arith) u in
    rw (test, rest)

-- the position after the first place with a section, 0 where there is none: `find` over the places, and one more than it found
pub natural_found : (xs : List Task) (j n m : ℕ) (r : Option ℕ) {Answered : ℕ → Type 0} → n ≡ length xs →
    MatchOption r ((k : ℕ) → 0 ≤ k → k < n → length_at xs k j ≡ 0) (λ i. (0 ≤ i) × (i < n) × (0 < length_at xs i j) × ((k : ℕ) → 0 ≤ k → k < i → length_at xs k j ≡ 0)) →
    MatchOption r (m ≡ 0) Answered → ((i : ℕ) → Answered i → m ≡ i + 1) → m ≡ natural xs (j + 1)
natural_found xs j n m None whole none is more = is ∙ sym (natural_none xs j (λ k h. none k (omega arith) (omega arith)))
natural_found xs j n m (Some i) whole (_, within, used, none) is more =
    more i is ∙ omega (arith, natural_at xs j i (λ k h. none k (omega arith) h) (omega arith) used)
