-- How long a request lasts, where work depends only on how many periods have begun.
use Rattle.std.proofs.Common.{◌≡◌, ℕ, ◌+◌, ◌-◌, ◌*◌, ◌/◌, ◌%◌, ◌<◌, ◌≤◌, ◌≢◌, min, ap, subst, ◌∙◌, arith}
use Rattle.std.proofs.lemmas.Nat.{div-add-mod'}
use Rattle.numbers.specs.Rounding.{rounded_up}
use Rattle.numbers.proofs.Roundings.{one_more, rounded_up_le, lt_rounded_up, last_of_period, next_period}
use Rattle.loads.specs.Kind.{Until, horizon}
use Rattle.loads.specs.LawProofs.Periodic.{Periodic}

-- the least multiple of a period from t on is the end of the last period that has begun
next_multiple : (t d m : ℕ) → 1 ≤ d → t ≤ m → m < t + d → m % d ≡ 0 → rounded_up t d * d ≡ m
next_multiple t d m low above below multiple =
    grind (arith, div-add-mod' m d, rounded_up_le t d (m / d) low, lt_rounded_up t d (m / d - 1) low, one_more (m / d - 1) d)

-- that instant is the last one up to the horizon with as many periods begun as at t
pub until_next : (t d m u : ℕ) → 1 ≤ d → t ≤ horizon → t ≤ m → m < t + d → m % d ≡ 0 → u ≡ min m horizon → Until horizon (λ v. rounded_up v d) t u
until_next t d m u low fits above below multiple is =
    let e : rounded_up t d * d ≡ m = next_multiple t d m low above below multiple in
    record {
      within = omega arith;
      same = let at : u ≡ min (rounded_up t d * d) horizon = omega arith in ap (λ v. rounded_up v d) at ∙ last_of_period t d horizon low fits;
      greatest = λ v above fits same. let later : rounded_up t d < rounded_up v d = next_period t d horizon v low (omega arith) fits in omega arith;
    }

module _ {work : ℕ → ℕ} {period : ℕ} (p : Periodic work period) where
  other_work : (m n : ℕ) → m ≢ n → work m ≢ work n
  other_work m n other same = grind (arith, p.more m n, p.more n m)

  -- more periods are more work, so an instant is the last with its work where it is the last with as many periods begun
  pub until_work : (d t u : ℕ) → d ≡ period → Until horizon (λ v. rounded_up v d) t u → Until horizon (λ v. work (rounded_up v period)) t u
  until_work d t u is l =
      let P : ℕ → Type 0 = λ x. Until horizon (λ v. rounded_up v x) t u in
      let begun = subst P is l in
      record {
        within = begun.within;
        same = ap work begun.same;
        greatest = λ v above fits. other_work (rounded_up v period) (rounded_up t period) (begun.greatest v above fits);
      }
