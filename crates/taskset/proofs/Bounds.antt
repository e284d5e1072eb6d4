-- The slack of one of at most 32 tasks is a number of moderate size.
use Rattle.std.proofs.Common.{◌≡◌, ℕ, ◌+◌, ◌*◌, ◌<◌, ◌≤◌, List, [], ◌∷◌, length, ℤ, pos, negsuc, neg_ℤ, ◌≤ℤ◌, ⊎_elim, arith, w64, SFits}
use lib.Signed.{mag}
use Rattle.std.proofs.lemmas.Int.{ints}
use Rattle.std.proofs.lemmas.List.Sums.{sum_by-cons}
use Rattle.std.proofs.lemmas.Bool.{cases_eq}
use Rattle.loads.specs.Kind.{Kind, most_work, largest_entry}
use Rattle.loads.specs.Kind.{Laws as KindLaws}
use Rattle.supplies.specs.Supplied.{Laws as SupplyLaws}
use Rattle.analysis.specs.Extremes.{Largest}
use Rattle.analysis.specs.Instants.{requests, left_over}
use Rattle.analysis.proofs.Supplying.{supply_bounded}
use Rattle.analysis.proofs.Totals.{request_bounded}
use Rattle.ledger.specs.Ledger.{most_tasks}

moderate : (z : ℤ) → neg_ℤ (pos 100000000000000) ≤ℤ z → z ≤ℤ pos 100000000000000 → mag z < 9223372036854775808
moderate (pos n) over under = omega (arith, ints)
moderate (negsuc n) over under = omega (arith, ints)

module _ (k : Kind) (kind : KindLaws k) where
  requests_bounded : (rows : List (List ℕ)) (t : ℕ) → requests k rows t ≤ length rows * most_work
  requests_bounded [] t = omega arith
  requests_bounded (row ∷ rows) t =
      omega (arith, sum_by-cons (λ row. k.request row t) row rows, request_bounded k kind row t, requests_bounded rows t)

  -- no job is longer than the largest number of a row
  pub longest_bounded : (row : List ℕ) → k.longest row ≤ largest_entry
  longest_bounded row =
      ⊎_elim
      (λ (lawful : k.fault row ≡ 0). (kind.lawful row lawful).longest_high)
      (λ (unlawful : k.fault row ≡ 0 → ⊥). omega (arith, (kind.unlawful row unlawful).no_longest))
      (cases_eq (k.fault row) 0)

  -- 32 tasks ask for less than 100,000,000,000,000 ticks: the slack fits a signed number of 64 bits
  pub slack_fits : (s : ℕ → ℕ) → SupplyLaws s → (above : List (List ℕ)) (longest deadline : ℕ) (z : ℤ) → length above ≤ most_tasks → longest ≤ largest_entry → Largest (left_over k s above longest) 1 deadline z → SFits w64 z
  slack_fits s supply above longest deadline z few short l =
      let (t, low, high, same) = l.reached in
      let asked : longest + requests k above t ≤ 100000000000000 = omega (arith, requests_bounded above t) in
      let given = supply_bounded s supply t in
      let under : z ≤ℤ pos 100000000000000 = omega (arith, ints) in
      let over : neg_ℤ (pos 100000000000000) ≤ℤ z = omega (arith, ints) in
      record { sfits = moderate z over under }
