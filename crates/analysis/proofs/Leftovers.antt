-- What is left over, stretch by stretch: over a stretch the last instant leaves the most, and past the last instant none leaves more.
use Rattle.std.proofs.Common.{◌≡◌, ℕ, ◌+◌, ◌≤◌, min, max, List, ℤ, ◌≤ℤ◌, ap, arith}
use Rattle.std.specs.Int.{int_max}
use Rattle.std.proofs.lemmas.Int.{ints}
use Rattle.loads.specs.Kind.{Kind, Until, horizon}
use Rattle.loads.specs.Kind.{Laws as KindLaws}
use Rattle.supplies.specs.Supplied.{last_instant}
use Rattle.supplies.specs.Supplied.{Laws as SupplyLaws}
use Rattle.analysis.specs.Extremes.{Largest}
use Rattle.analysis.specs.Instants.{requests, left_over}
use Rattle.analysis.proofs.Extremes.{largest_first, largest_next, largest_cut}
use Rattle.analysis.proofs.Stretches.{until_after, flat}
use Rattle.analysis.proofs.Supplying.{supply_rises, supply_last}
use Rattle.analysis.proofs.Totals.{requests_rise}

-- z is the most at an instant from 1 to e, which is not past the limit
pub record MostUpTo (f : ℕ → ℤ) (limit e : ℕ) (z : ℤ) : Type 0 where
  pub from : 1 ≤ e
  pub to : e ≤ limit
  pub most : Largest f 1 e z

module _ {k : Kind} (kind : KindLaws k) {s : ℕ → ℕ} (supply : SupplyLaws s) (above : List (List ℕ)) (longest : ℕ) where
  abbrev left : ℕ → ℤ
  left = left_over k s above longest

  -- a stretch from t to e, cut off at a limit
  module _ {limit t u e : ℕ} (within : t ≤ limit) (early : limit ≤ last_instant) (l : Until horizon (requests k above) t u) (cut : e ≡ min u limit) where
    in_reach : t ≤ horizon
    in_reach = omega arith

    end_after : t ≤ e
    end_after = omega (arith, until_after in_reach l)

    top : (v : ℕ) → t ≤ v → v ≤ e → left v ≤ℤ left e
    top v low high =
        let same = flat in_reach (requests_rise k kind above) l in
        let same_v = same v low (omega arith) in
        let same_e = same e end_after (omega arith) in
        let more = supply_rises s supply v e high in
        omega (arith, ints)

    -- the first stretch
    pub first_stretch : t ≡ 1 → MostUpTo left limit e (left e)
    first_stretch first = record {
      from = omega (arith, end_after);
      to = omega arith;
      most = largest_first left 1 e (omega (arith, end_after)) (λ v low high. top v (omega arith) high);
    }

    -- one more stretch, after d
    pub next_stretch : {d : ℕ} {z : ℤ} → t ≡ d + 1 → MostUpTo left limit d z → MostUpTo left limit e (int_max z (left e))
    next_stretch {d} {z} next before = record {
      from = omega (arith, end_after);
      to = omega arith;
      most = largest_next left 1 d e z before.from (omega (arith, end_after)) before.most (λ v past high. top v (omega arith) high);
    }

  -- past the last instant none leaves more
  pub whole_range : {deadline limit e : ℕ} {z : ℤ} → limit ≡ max 1 (min deadline last_instant) → limit ≤ e → MostUpTo left limit e z → Largest left 1 deadline z
  whole_range {deadline} {limit} {e} {z} cut done before =
      let to = before.to in
      largest_cut left 1 deadline e z before.from (omega arith) before.most
      (λ v past within.
      let last : s e ≡ s last_instant = ap s (omega arith) in
      let no_more = supply_last s supply v in
      let more = requests_rise k kind above e v (omega arith) in
      omega (arith, ints))
