-- The largest value and the first hit over a range of instants, as relations; and how to reach them without going tick by tick.
use Rattle.std.proofs.Common.{◌≡◌, ℕ, zero, suc, ◌+◌, ◌-◌, ◌<◌, ◌≤◌, max, Bool, true, false, ℤ, ◌≤ℤ◌, Some, None, Option, refl, ap, ◌∙◌, ⊎_elim, arith}
use lib.Signed.{≤ℤ_refl, lt_z}
use Rattle.std.specs.Int.{int_max}
use Rattle.std.proofs.lemmas.Int.{ints, clamps}
use Rattle.std.proofs.lemmas.Bool.{cases_lt, cond_both, both_ways}
use Rattle.analysis.specs.Extremes.{largest, Largest, first, Earliest}

pub by_lt : {P : Type 0} (a b : ℕ) → (a < b → P) → (b ≤ a → P) → P
by_lt a b below above = ⊎_elim below above (cases_lt a b)

-- ---- the largest value

at_same : (f : ℕ → ℤ) (t u : ℕ) → t ≡ u → f t ≤ℤ f u
at_same f t u e = rw e (≤ℤ_refl (f u))

module _ (f : ℕ → ℤ) (a : ℕ) where
  largest_above : (n t : ℕ) → a ≤ t → t ≤ a + n → f t ≤ℤ largest f a n
  largest_above zero t low high = at_same f t a (omega arith)
  largest_above (suc n) t low high =
      by_lt t (a + suc n)
      (λ less. let h : f t ≤ℤ largest f a n = largest_above n t low (omega arith) in omega (arith, ints, clamps))
      (λ more. let h : f t ≤ℤ f (a + suc n) = at_same f t (a + suc n) (omega arith) in omega (arith, ints, clamps))

  largest_reached : (n : ℕ) → (t : ℕ) × (a ≤ t) × (t ≤ a + n) × (f t ≡ largest f a n)
  largest_reached zero = (a, omega arith, omega arith, refl)
  largest_reached (suc n) =
      let (t, low, high, same) = largest_reached n in
      cond_both (lt_z (f (a + suc n)) (largest f a n)) (largest f a n) (f (a + suc n)) (λ z. (t : ℕ) × (a ≤ t) × (t ≤ a + suc n) × (f t ≡ z))
      (λ _. (t, low, omega arith, same))
      (λ _. (a + suc n, omega arith, omega arith, refl))

  -- the definition meets the relation
  pub largest_is : (b : ℕ) → Largest f a b (largest f a (b - a))
  largest_is b = record {
    reached = let (t, low, high, same) = largest_reached (b - a) in (t, low, omega arith, same);
    above = λ t low high. largest_above (b - a) t low (omega arith);
  }

  -- and nothing else does
  pub largest_unique : (b : ℕ) (z : ℤ) → Largest f a b z → z ≡ largest f a (b - a)
  largest_unique b z l =
      let (t, low, high, same) = l.reached in
      let (u, low', high', same') = largest_reached (b - a) in
      let under = largest_above (b - a) t low (omega arith) in
      let over = l.above u low' (omega arith) in
      omega (arith, ints)

  -- a first stretch whose last instant has the most
  pub largest_first : (u : ℕ) → a ≤ u → ((v : ℕ) → a ≤ v → v ≤ u → f v ≤ℤ f u) → Largest f a u (f u)
  largest_first u low top = record { reached = (u, low, omega arith, refl); above = λ t l h. top t l (omega arith) }

  -- one more stretch, after t, whose last instant has the most of it
  pub largest_next : (t u : ℕ) (z : ℤ) → a ≤ t → t < u → Largest f a t z → ((v : ℕ) → t < v → v ≤ u → f v ≤ℤ f u) → Largest f a u (int_max z (f u))
  largest_next t u z low h l top =
      let (w, wl, wh, same) = l.reached in
      record {
        reached = cond_both (lt_z (f u) z) z (f u) (λ y. (v : ℕ) × (a ≤ v) × (v ≤ max a u) × (f v ≡ y))
            (λ _. (w, wl, omega arith, same))
            (λ _. (u, omega arith, omega arith, refl));
        above = λ v vl vh. by_lt t v
            (λ more. let under = top v more (omega arith) in omega (arith, ints, clamps))
            (λ less. let under = l.above v vl (omega arith) in omega (arith, ints, clamps));
      }

  -- where no later instant of a range has more, it may be cut off
  pub largest_cut : (b m : ℕ) (z : ℤ) → a ≤ m → m ≤ max a b → Largest f a m z → ((v : ℕ) → m < v → v ≤ max a b → f v ≤ℤ f m) → Largest f a b z
  largest_cut b m z low high l top =
      let (t, tl, th, same) = l.reached in
      record {
        reached = (t, tl, omega arith, same);
        above = λ v vl vh. by_lt m v
            (λ more. let under = top v more vh in let over = l.above m low (omega arith) in omega (arith, ints))
            (λ less. l.above v vl (omega arith));
      }

-- ---- the first hit

-- a choice by a test
pub pick : {A : Type 0} (b : Bool) (x y : A) (P : A → Type 0) → (b ≡ true → P x) → (b ≡ false → P y) → P (elim b [ true ↦ x | false ↦ y ])
pick true x y P yes' no' = yes' refl
pick false x y P yes' no' = no' refl

-- the first hit among n instants from t on
abbrev From : (ℕ → Bool) → ℕ → ℕ → Option ℕ → Type 0
From p t n (Some u) = (t ≤ u) × (u < t + n) × (p u ≡ true) × ((v : ℕ) → t ≤ v → v < u → p v ≡ false)
From p t n None = (v : ℕ) → t ≤ v → v < t + n → p v ≡ false

module _ (p : ℕ → Bool) where
  -- all instants from t to before u fail, if t fails and all later ones do
  fails_from : (t u : ℕ) → p t ≡ false → ((v : ℕ) → suc t ≤ v → v < u → p v ≡ false) → (v : ℕ) → t ≤ v → v < u → p v ≡ false
  fails_from t u here later v low high =
      by_lt t v (λ more. later v more high) (λ less. ap p (omega arith) ∙ here)

  one_earlier : (t n : ℕ) (r : Option ℕ) → p t ≡ false → From p (suc t) n r → From p t (suc n) r
  one_earlier t n (Some u) here (low, high, hit, before) = (omega arith, omega arith, hit, fails_from t u here before)
  one_earlier t n None here none = λ v low high. fails_from t (t + suc n) here (λ w a b. none w a (omega arith)) v low high

  first_from : (t n : ℕ) → From p t n (first p t n)
  first_from t zero = λ v low high. absurd (omega arith)
  first_from t (suc n) =
      pick (p t) (Some t) (first p (suc t) n) (From p t (suc n))
      (λ here. (omega arith, omega arith, here, λ v low high. absurd (omega arith)))
      (λ here. one_earlier t n (first p (suc t) n) here (first_from (suc t) n))

  from_unique : (t n : ℕ) (q r : Option ℕ) → From p t n q → From p t n r → q ≡ r
  from_unique t n None None none none' = refl
  from_unique t n (Some u) None (low, high, hit, before) none = absurd (both_ways (p u) (none u low high) hit)
  from_unique t n None (Some u) none (low, high, hit, before) = absurd (both_ways (p u) (none u low high) hit)
  from_unique t n (Some u) (Some v) (ul, uh, uhit, ubefore) (vl, vh, vhit, vbefore) =
      by_lt u v
      (λ less. absurd (both_ways (p u) (vbefore u ul less) uhit))
      (λ more. by_lt v u
      (λ less. absurd (both_ways (p v) (ubefore v vl less) vhit))
      (λ same. ap Some (omega arith)))

  earliest_from : (n : ℕ) (r : Option ℕ) → Earliest p n r → From p 1 n r
  earliest_from n (Some u) l = let to = l.to in (l.from, omega arith, l.hit, l.before)
  earliest_from n None none = λ v low high. none v low (omega arith)

  from_earliest : (n : ℕ) (r : Option ℕ) → From p 1 n r → Earliest p n r
  from_earliest n (Some u) (low, high, hit, before) = record { from = low; to = omega arith; hit = hit; before = before }
  from_earliest n None none = λ u low high. none u low (omega arith)

  -- the definition meets the relation
  pub earliest_is : (n : ℕ) → Earliest p n (first p 1 n)
  earliest_is n = from_earliest n (first p 1 n) (first_from 1 n)

  -- and nothing else does
  pub earliest_unique : (n : ℕ) (r : Option ℕ) → Earliest p n r → r ≡ first p 1 n
  earliest_unique n r l = from_unique 1 n r (first p 1 n) (earliest_from n r l) (first_from 1 n)
