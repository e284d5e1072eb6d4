-- A share of q in each p, by its rounds: round j + 1 is from j * p + b, not included, to (j + 1) * p + b, where b is p - q.
use Rattle.std.specs.Prelude.{◌≡◌, ℕ, ◌+◌, ◌-◌, ◌*◌, ◌/◌, ◌<◌, ◌≤◌}
use Rattle.std.proofs.Common.{ap, ◌∙◌, ⊎_elim, arith, mul-add}
use Rattle.std.proofs.lemmas.Nat.{mul-le, div-add-mod', mod_below}
use Rattle.std.proofs.lemmas.Bool.{cases_lt, cases_eq}
use Rattle.std.proofs.lemmas.Bool.Decides.{nat_tests}
use Rattle.numbers.specs.Rounding.{rounded_up}
use Rattle.numbers.proofs.Roundings.{one_more, rounded_up_le, lt_rounded_up, covered}
use Rattle.supplies.specs.Shares.{round, given_by}
use Rattle.supplies.specs.LawProofs.Formulas.{Steady}

two_more : (j p : ℕ) → (j + 1 + 1) * p ≡ j * p + 2 * p
two_more j p = omega (arith, one_more (j + 1) p, one_more j p)

module _ (q p : ℕ) (lo : 1 ≤ q) (hi : q ≤ p) where
  abbrev b : ℕ
  b = p - q

  -- the formula of a share
  abbrev f : ℕ → ℕ
  f t = given_by q p (round q p t) t

  pub parts : (j : ℕ) → j * p ≡ j * q + j * (p - q)
  parts j = let e : p ≡ q + (p - q) = omega arith in ap (λ x. j * x) e ∙ mul-add j q (p - q)

  -- while a budget is given, all gaps up to it have gone by
  pub gaps_before : (n t : ℕ) → 2 ≤ n → n * p - q - q ≤ t → n * (p - q) ≤ t
  gaps_before n t more given = omega (arith, parts n, mul-le 2 q n q more (omega arith))

  round_ends : (t : ℕ) → t ≤ round q p t * p + b
  round_ends t =
      let r = covered (t - b) p (omega arith) in
      omega (arith, mul-le (rounded_up (t - b) p) p (round q p t) p (omega arith) (omega arith))

  round_begins : (t j : ℕ) → round q p t ≡ j + 1 → 1 ≤ j → j * p + b < t
  round_begins t j e pos =
      ⊎_elim
      (λ (l : j * p + b < t). l)
      (λ (g : t ≤ j * p + b). absurd (let n : rounded_up (t - b) p ≤ j = rounded_up_le (t - b) p j (omega arith) (omega arith) in omega arith))
      (cases_lt (j * p + b) t)

  round_is : (t j : ℕ) → (1 ≤ j → j * p + b < t) → t ≤ (j + 1) * p + b → round q p t ≡ j + 1
  round_is t j begins ends =
      let high : rounded_up (t - b) p ≤ j + 1 = rounded_up_le (t - b) p (j + 1) (omega arith) (omega arith) in
      ⊎_elim
      (λ (z : j ≡ 0). omega arith)
      (λ (n : j ≡ 0 → ⊥). let s : j * p + b < t = begins (omega arith) in let low : j < rounded_up (t - b) p = lt_rounded_up (t - b) p j (omega arith) (omega arith) in omega arith)
      (cases_eq j 0)

  -- what is given by t in round j + 1, without cases
  given : (t j : ℕ) → t ≤ (j + 1) * p + b → given_by q p (j + 1) t ≡ j * q + (t - (j * p + 2 * b))
  given t j ends =
      let e1 = two_more j p in
      let e2 = two_more j (p - q) in
      let e3 = parts j in
      let e4 = one_more j p in
      let e5 : (j + 1 - 1) * q ≡ j * q = ap (λ x. x * q) (omega arith) in
      ⊎_elim
      (λ (l : t < j * p + 2 * b). grind (arith, nat_tests))
      (λ (g : j * p + 2 * b ≤ t). grind (arith, nat_tests))
      (cases_lt t (j * p + 2 * b))

  share_at : (t j : ℕ) → (1 ≤ j → j * p + b < t) → t ≤ (j + 1) * p + b → f t ≡ j * q + (t - (j * p + 2 * b))
  share_at t j begins ends = ap (λ k. given_by q p k t) (round_is t j begins ends) ∙ given t j ends

  -- the round of t, counted from 0, with what it says of t
  record Placed (t : ℕ) : Type 0 where
    j : ℕ
    begins : 1 ≤ j → j * p + b < t
    ends : t ≤ (j + 1) * p + b
    is : f t ≡ j * q + (t - (j * p + 2 * b))

  placed : (t : ℕ) → Placed t
  placed t =
      let n : ℕ = round q p t - 1 in
      let e : round q p t ≡ n + 1 = omega arith in
      let begins : 1 ≤ n → n * p + b < t = round_begins t n e in
      let same : round q p t * p ≡ (n + 1) * p = ap (λ x. x * p) e in
      let ends : t ≤ (n + 1) * p + b = omega (arith, round_ends t) in
      record { j = n; begins = begins; ends = ends; is = share_at t n begins ends }

  pub share_start : f 0 ≡ 0
  share_start = omega (arith, share_at 0 0 (λ l. absurd (omega arith)) (omega arith))

  pub share_steady : (t : ℕ) → Steady f t
  share_steady t =
      let d = placed t in
      let n : ℕ = d.j in
      ⊎_elim
      (λ (l : t < (n + 1) * p + b).
      let is = share_at (t + 1) n (λ h. omega (arith, d.begins h)) (omega arith) in
      record { keeps = omega (arith, d.is); adds = omega (arith, d.is) })
      (λ (g : (n + 1) * p + b ≤ t).
      let is = share_at (t + 1) (n + 1) (λ h. omega arith) (omega (arith, d.ends, one_more (n + 1) p)) in
      record { keeps = omega (arith, d.is, d.ends, one_more n p, one_more n q); adds = omega (arith, d.is, d.ends, one_more n p, one_more n q) })
      (cases_lt t ((n + 1) * p + b))

  -- a share of all of the time gives every tick
  pub share_whole : q ≡ p → (t : ℕ) → f t ≡ t
  share_whole e t =
      let d = placed t in
      let same : d.j * q ≡ d.j * p = ap (λ x. d.j * x) e in
      ⊎_elim
      (λ (z : d.j ≡ 0). let none : d.j * p ≡ 0 = ap (λ x. x * p) z ∙ omega arith in omega (arith, d.is))
      (λ (n : d.j ≡ 0 → ⊥). omega (arith, d.is, d.begins (omega arith)))
      (cases_eq d.j 0)

  -- the first instant at which w is reached
  abbrev at : ℕ → ℕ
  at w = (w - 1) / q * p + 2 * b + (w - (w - 1) / q * q)

  module _ (w : ℕ) (some : 1 ≤ w) where
    -- how many whole budgets come before
    abbrev full : ℕ
    full = (w - 1) / q

    pub full_low : full * q < w
    full_low = omega (arith, div-add-mod' (w - 1) q)

    full_high : w ≤ full * q + q
    full_high = omega (arith, div-add-mod' (w - 1) q, mod_below (w - 1) q lo)

    pub at_least : w ≤ at w
    at_least = omega (arith, full_low, mul-le full q full p (omega arith) hi)

    pub reached : f (at w) ≡ w
    reached = omega (arith, full_low, share_at (at w) full (λ _. omega (arith, full_low)) (omega (arith, full_low, full_high, one_more full p)))

    pub before : (v : ℕ) → v < at w → f v < w
    before v l =
        let d = placed v in
        let i : ℕ = d.j in
        let lo1 = full_low in
        let hi1 = full_high in
        let e1 = one_more i p in
        let e2 = one_more full p in
        ⊎_elim
        (λ (less : i < full). omega (arith, d.is, d.ends, one_more i q, mul-le (i + 1) q full q (omega arith) (omega arith)))
        (λ (geq : full ≤ i).
        ⊎_elim
        (λ (s : i ≡ full). let ip : i * p ≡ full * p = ap (λ x. x * p) s in let iq : i * q ≡ full * q = ap (λ x. x * q) s in omega (arith, d.is))
        (λ (n : i ≡ full → ⊥). absurd (omega (arith, d.begins (omega arith), mul-le (full + 1) p i p (omega arith) (omega arith))))
        (cases_eq i full))
        (cases_lt i full)
