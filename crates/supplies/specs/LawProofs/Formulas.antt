-- A supply that is made from a formula keeps the laws of supplies, once the formula keeps them up to the last instant.
use Rattle.std.specs.Prelude.{◌≡◌, ℕ, suc, ◌+◌, ◌<◌, ◌≤◌, nat_le}
use Rattle.std.specs.Bool.{then_some}
use Rattle.std.proofs.Common.{ap, sym, subst, inl, inr, ⊎_elim, arith}
use Rattle.std.proofs.lemmas.Bool.{cases_lt, lt-leb, le-leb}
use Rattle.supplies.specs.Supplied.{Laws, Reached, When, up_to_last, last_instant}

-- one more tick gives nothing or one more
pub record Steady (f : ℕ → ℕ) (t : ℕ) : Type 0 where
  pub keeps : f t ≤ f (t + 1)
  pub adds : f (t + 1) ≤ f t + 1

module _ (f : ℕ → ℕ) where
  pub inside : (t : ℕ) → t ≤ last_instant → up_to_last f t ≡ f t
  inside t h = ap f (omega arith)

  pub formula_laws : f 0 ≡ 0 → ((t : ℕ) → Steady f t) → Laws (up_to_last f)
  formula_laws start steady = record {
    starts = start;
    ticks = λ t. ⊎_elim
        (λ (h : t < last_instant).
        let here = inside t (omega arith) in
        let next : up_to_last f (suc t) ≡ f (t + 1) = ap f (omega arith) in
        let d = steady t in
        ⊎_elim
        (λ (more : f t < f (t + 1)). inr (omega (arith, d.adds)))
        (λ (same : f (t + 1) ≤ f t). inl (omega (arith, d.keeps)))
        (cases_lt (f t) (f (t + 1))))
        (λ (h : last_instant ≤ t). inl (ap f (omega arith)))
        (cases_lt t last_instant);
    late = λ t. ap f (omega arith);
  }

  -- the first instant at which the formula reaches w, where that is not too late
  pub reached_at : (w t : ℕ) → t ≤ last_instant → w ≤ f t → ((u : ℕ) → u < t → f u < w) → Reached (up_to_last f) w t
  reached_at w t within reaches before = record {
    within = within;
    reaches = omega (arith, inside t within);
    before = λ u h. omega (arith, inside u (omega arith), before u h);
  }

  -- where f reaches w first at t, that is the answer up to the last instant, and none past it
  pub when_at : (w t : ℕ) → w ≤ f t → ((u : ℕ) → u < t → f u < w) → When (up_to_last f) w (then_some (nat_le t last_instant) t)
  when_at w t reaches before =
      ⊎_elim
      (λ (late : last_instant < t). subst (λ b. When (up_to_last f) w (then_some b t)) (sym (lt-leb t last_instant late)) (before last_instant late))
      (λ (early : t ≤ last_instant). subst (λ b. When (up_to_last f) w (then_some b t)) (sym (le-leb t last_instant early)) (reached_at w t early reaches before))
      (cases_lt last_instant t)
