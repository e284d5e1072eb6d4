-- How long the request of a jittered row lasts.
use Rattle.std.proofs.Common.{◌≡◌, ℕ, ◌+◌, ◌-◌, ◌<◌, ◌≤◌, ◌≢◌, min, List, refl, sym, ap, subst, ◌∙◌, arith}
use Rattle.loads.specs.Kind.{Kind, Laws, Until, horizon}
use Rattle.loads.specs.Jittered.{jittered, jittered_formulas, jitter, row_below}
use Rattle.loads.specs.LawProofs.Guarded.{guarded_until}
use Rattle.loads.specs.LawProofs.JitteredLaws.{asks, asks_is, jittered_lawful, lawful_below}

module _ (k : Kind) (laws : Laws k) (row : List ℕ) (lawful : (jittered_formulas k).fault row ≡ 0) where
  -- nothing is asked for at 0, and something at every later instant
  pub until_zero : (t : ℕ) → t ≡ 0 → Until horizon ((jittered_formulas k).request row) t 0
  until_zero t none =
      let f = jittered_lawful k laws row lawful in
      record {
        within = omega arith;
        same = ap (asks k laws row lawful) (sym none);
        greatest = λ v above fits same. omega (arith, ap (asks k laws row lawful) none, f.starts, f.rises 1 v above fits, f.first_job 1 (omega arith) f.separation_low, f.longest_low);
      }

  -- so it is of the jittered kind
  pub jittered_until_zero : (t : ℕ) → t ≤ 0 → Until horizon ((jittered k).request row) t 0
  jittered_until_zero t none = guarded_until (jittered_formulas k) row t 0 lawful (until_zero (min t horizon) (omega arith))

  -- where the request below changes after u, within the horizon: the kind below answered u, asked of the row b
  module _ (b : List ℕ) (t u : ℕ) (same_row : b ≡ row_below row) (some : t ≢ 0) (answer : k.fault b ≡ 0 → Until horizon (k.request b) (t + jitter row) u) (changes : u ≢ horizon) where
    lasts : Until horizon (k.request (row_below row)) (t + jitter row) u
    lasts =
        let P : List ℕ → Type 0 = λ a. Until horizon (k.request a) (t + jitter row) u in
        subst P same_row (answer (ap k.fault same_row ∙ lawful_below k laws row lawful))

    -- no later instant has the same request
    changed : (v : ℕ) → u < v → k.request (row_below row) v ≢ k.request (row_below row) (t + jitter row)
    changed v above same =
        let within = lasts.within in
        lasts.greatest (min v horizon) (omega arith) (omega arith) (sym (laws.late (row_below row) v) ∙ same)

    -- u is so much jitter after t
    jitter_passed : t + jitter row ≤ u
    jitter_passed = let none = λ (less : u < t + jitter row). changed (t + jitter row) less refl in grind arith

    pub until_some : Until horizon ((jittered_formulas k).request row) t (u - jitter row)
    until_some =
        let after = jitter_passed in
        let is = asks_is k laws row lawful in
        record {
          within = omega (arith, lasts.within);
          same =
              let back : k.request (row_below row) (u - jitter row + jitter row) ≡ k.request (row_below row) u = ap (k.request (row_below row)) (omega arith) in
              omega (arith, is t (omega arith), is (u - jitter row) (omega arith), lasts.same);
          greatest = λ v above fits same. changed (v + jitter row) (omega arith) (omega (arith, is t (omega arith), is v (omega arith)));
        }

  module _ (b : List ℕ) (m t u : ℕ) (same_row : b ≡ row_below row) (same_instant : m ≡ min t horizon) (some : 1 ≤ t) (answer : k.fault b ≡ 0 → Until horizon (k.request b) (m + jitter row) u) (changes : u ≢ horizon) where
    -- u is so much jitter after t, or after the horizon where t is later
    pub jitter_before : min t horizon + jitter row ≤ u
    jitter_before = subst (λ v. v + jitter row ≤ u) same_instant (jitter_passed b m u same_row (λ none. omega (arith, none)) answer changes)

    pub jittered_until_some : Until horizon ((jittered k).request row) t (u - jitter row)
    jittered_until_some =
        let P : ℕ → Type 0 = λ v. Until horizon ((jittered_formulas k).request row) v (u - jitter row) in
        guarded_until (jittered_formulas k) row t (u - jitter row) lawful (subst P same_instant (until_some b m u same_row (λ none. omega (arith, none)) answer changes))
