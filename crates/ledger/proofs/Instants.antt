-- First instants at which work is covered, and the slack as the most that is left over.
use Rattle.std.proofs.Common.{◌≡◌, ℕ, ◌+◌, ◌≤◌, Bool, true, List, Some, None, Option, unwrap_or, arith}
use Rattle.std.proofs.lemmas.Bool.{both_ways, le-leb, leb-true}
use Rattle.loads.specs.Kind.{Kind}
use Rattle.analysis.specs.Extremes.{Largest, Earliest}
use Rattle.analysis.specs.Instants.{work_of, left_over, covered, first_covered}
use Rattle.analysis.proofs.Extremes.{by_lt, largest_is, earliest_is}
use Rattle.ledger.specs.Ledger.{Ledger, task}
use Rattle.ledger.specs.Ceilings.{blocking}
use Rattle.ledger.specs.Instants.{above, job, Instant, slack, first_instant, FirstInstant}

-- where some instant passes, the first does, and is not later
earliest_hit : (p : ℕ → Bool) (n : ℕ) (r : Option ℕ) (t : ℕ) → Earliest p n r → 1 ≤ t → t ≤ n → p t ≡ true → (1 ≤ unwrap_or r 0) × (unwrap_or r 0 ≤ t) × (p (unwrap_or r 0) ≡ true)
earliest_hit p n (Some u) t l low high hit =
    (l.from, by_lt t u (λ less. absurd (both_ways (p t) (l.before t low less) hit)) (λ more. more), l.hit)
earliest_hit p n None t none low high hit = absurd (both_ways (p t) (none t low high) hit)

module _ (k : Kind) (s : ℕ → ℕ) where
  -- where work is covered at some instant, it is at the first, which is not later
  pub covered_first : (rows : List (List ℕ)) (base limit t : ℕ) → 1 ≤ t → t ≤ limit → work_of k rows base t ≤ s t → (1 ≤ unwrap_or (first_covered k s rows base limit) 0) × (unwrap_or (first_covered k s rows base limit) 0 ≤ t) × (work_of k rows base (unwrap_or (first_covered k s rows base limit) 0) ≤ s (unwrap_or (first_covered k s rows base limit) 0))
  covered_first rows base limit t low high enough =
      let found = first_covered k s rows base limit in
      let (from, by, hit) = earliest_hit (covered k s rows base) limit found t (earliest_is (covered k s rows base) limit) low high (le-leb (work_of k rows base t) (s t) enough) in
      (from, by, leb-true (work_of k rows base (unwrap_or found 0)) (s (unwrap_or found 0)) hit)

  -- where a position has an instant, `first_instant` is its first
  pub first_instant_first : (l : Ledger) (c : List ℕ) (i t : ℕ) → Instant k s l c i t → FirstInstant k s l c i (first_instant k s l c i)
  first_instant_first l c i t h =
      let (from, by, enough) = found t h in
      record {
        instant = record { from = from; to = omega (arith, h.to); served = omega arith };
        earliest = λ u g. (found u g).1;
      }
    where
      found : (u : ℕ) → Instant k s l c i u → (1 ≤ first_instant k s l c i) × (first_instant k s l c i ≤ u) × (work_of k (above l i) (job k l i + blocking l c i) (first_instant k s l c i) ≤ s (first_instant k s l c i))
      found u g = covered_first (above l i) (job k l i + blocking l c i) (task l i).deadline u g.from g.to (omega (arith, g.served))

  -- the slack is the most that the supply leaves over at an instant up to the deadline
  pub slack_is : (l : Ledger) (i : ℕ) → Largest (left_over k s (above l i) (job k l i)) 1 (task l i).deadline (slack k s l i)
  slack_is l i = largest_is (left_over k s (above l i) (job k l i)) 1 (task l i).deadline
