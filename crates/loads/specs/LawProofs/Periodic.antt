-- Loads whose work depends only on how many periods have begun: their laws, and how long a request lasts.
use Rattle.std.specs.Prelude.{◌≡◌, ℕ, ◌*◌, ◌<◌, ◌≤◌, min, List, slice_index}
use Rattle.std.proofs.Common.{ap, ◌∙◌, arith}
use Rattle.numbers.specs.Rounding.{rounded_up}
use Rattle.numbers.proofs.Roundings.{rounded_up_mono, rounded_up_zero, rounded_up_one, rounded_up_self, last_of_period, next_period}
use Rattle.loads.specs.Kind.{Kind, Until, guarded, horizon, largest_entry, most_work}
use Rattle.loads.specs.LawProofs.Guarded.{Formulas, guarded_until}

-- no more periods begin than ticks go by
pub periods_few : (n t d : ℕ) → 1 ≤ d → n ≡ rounded_up (min t horizon) d → n ≤ horizon
periods_few n t d low e = omega (arith, rounded_up_self (min t horizon) d low)

-- work n is what n jobs come to, one in each period
pub record Periodic (work : ℕ → ℕ) (period : ℕ) : Type 0 where
  pub period_low : 1 ≤ period
  pub period_high : period ≤ largest_entry
  pub none : work 0 ≡ 0
  pub more : (m n : ℕ) → m < n → work m < work n
  pub bounded : (n : ℕ) → work n ≤ n * largest_entry

module _ (work : ℕ → ℕ) (period : ℕ) (p : Periodic work period) where
  rises : (m n : ℕ) → m ≤ n → work m ≤ work n
  rises m n h = grind (arith, p.more m n)

  -- the work of as many jobs as periods begin up to the horizon
  pub work_small : (n : ℕ) → n ≤ horizon → work n ≤ most_work
  work_small n few = omega (arith, p.bounded n)

  module _ (k : Kind) (row : List ℕ) (asks : (t : ℕ) → k.request row t ≡ work (rounded_up t period)) where
    pub periodic_formulas : k.longest row ≡ work 1 → k.separation row ≡ period → ((i : ℕ) → i < 8 → slice_index row i ≤ largest_entry) → Formulas k row
    periodic_formulas long apart small = record {
      starts = asks 0 ∙ ap work (rounded_up_zero period p.period_low) ∙ p.none;
      rises = λ t u le fits. omega (arith, asks t, asks u, rises (rounded_up t period) (rounded_up u period) (rounded_up_mono t u period p.period_low le));
      bounded = λ t fits. omega (arith, asks t, work_small (rounded_up t period) (omega (arith, rounded_up_self t period p.period_low)));
      longest_low = omega (arith, long, p.more 0 1 (omega arith));
      longest_high = omega (arith, long, p.bounded 1);
      separation_low = omega (arith, apart, p.period_low);
      separation_high = omega (arith, apart, p.period_high);
      first_job = λ t low high.
          let one : work (rounded_up t period) ≡ work 1 = ap work (rounded_up_one t period low (omega (arith, apart))) in
          omega (arith, asks t, long);
      small = small;
    }

    -- how long a request lasts, by the end of the last period that has begun
    until_formulas : (t u : ℕ) → t ≤ horizon → u ≡ min (rounded_up t period * period) horizon → Until horizon (k.request row) t u
    until_formulas t u fits e = record {
      within = omega arith;
      same =
          let at : rounded_up u period ≡ rounded_up t period = ap (λ v. rounded_up v period) e ∙ last_of_period t period horizon p.period_low fits in
          omega (arith, asks u, asks t, ap work at);
      greatest = λ v above within same.
          let later : rounded_up t period < rounded_up v period = next_period t period horizon v p.period_low (omega arith) within in
          omega (arith, asks v, asks t, p.more (rounded_up t period) (rounded_up v period) later);
    }

    pub periodic_until : k.fault row ≡ 0 → (t u : ℕ) → u ≡ min (rounded_up (min t horizon) period * period) horizon → Until horizon ((guarded k).request row) t u
    periodic_until lawful t u e = guarded_until k row t u lawful (until_formulas (min t horizon) u (omega arith) e)
