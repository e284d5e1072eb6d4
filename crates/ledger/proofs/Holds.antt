-- Hold times: under a table that fits and serves they exist, are by the deadline of the task at the ceiling, and do not grow as a ceiling falls.
use Rattle.std.proofs.Common.{◌≡◌, ℕ, suc, ◌-◌, ◌<◌, ◌≤◌, ltb, List, length, get_or, take, sym, le_trans, arith}
use Rattle.std.proofs.lemmas.List.{take-take}
use Rattle.std.proofs.lemmas.Bool.{cond-true, cond-false, lt-ltb, le-ltb}
use Rattle.loads.specs.Kind.{Kind, Laws}
use Rattle.supplies.specs.Supplied.{last_instant}
use Rattle.analysis.specs.Instants.{requests}
use Rattle.analysis.proofs.Extremes.{by_lt}
use Rattle.analysis.proofs.Totals.{requests_of_some}
use Rattle.ledger.specs.Ledger.{Task, Ledger, task, no_task, rows, section}
use Rattle.ledger.specs.Ceilings.{ceiling, Fits, blocking}
use Rattle.ledger.specs.Instants.{above, Serves, through_by, held_for, hold, hold_work, Held}
use Rattle.ledger.specs.Sound.{Sound}
use Rattle.ledger.proofs.Largest.{most_le, most_ge}
use Rattle.ledger.proofs.Natural.{user_ceiling, ceiling_within}
use Rattle.ledger.proofs.Blocking.{blocking_ge}
use Rattle.ledger.proofs.Instants.{covered_first}

-- fewer rows ask for no more
requests_of_fewer : (k : Kind) (xs : List (List ℕ)) (m n t : ℕ) → m ≤ n → requests k (take m xs) t ≤ requests k (take n xs) t
requests_of_fewer k xs m n t h = rw (sym (take-take m n xs h)) (requests_of_some k (take n xs) m t)

module _ (k : Kind) (s : ℕ → ℕ) (l : Ledger) (c : List ℕ) (j : ℕ) (x : Task) where
  held_some : 0 < section x j → held_for k s l c j x ≡ through_by k s l c j (section x j)
  held_some used = cond-true (ltb 0 (section x j)) (through_by k s l c j (section x j)) 0 (lt-ltb 0 (section x j) used)

  -- a task that does not use the resource does not hold it
  pub held_none : section x j ≡ 0 → held_for k s l c j x ≡ 0
  held_none unused = cond-false (ltb 0 (section x j)) (through_by k s l c j (section x j)) 0 (le-ltb 0 (section x j) (omega arith))

  -- where the section is through at some instant, the hold time is such an instant, and not later
  pub held_by : (t : ℕ) → 0 < section x j → 1 ≤ t → t ≤ last_instant → hold_work k s l c j x t ≤ s t → (1 ≤ held_for k s l c j x) × (held_for k s l c j x ≤ t) × (hold_work k s l c j x (held_for k s l c j x) ≤ s (held_for k s l c j x))
  held_by t used low high enough = rw (held_some used) (covered_first k s (above l (ceiling c j)) (section x j) last_instant t low high enough)

-- what bounds the hold time of every user bounds that of the resource
hold_le : (k : Kind) (s : ℕ → ℕ) (l : Ledger) (c : List ℕ) (j b : ℕ) → ((p : ℕ) → 1 ≤ p → p ≤ length l.tasks → 0 < section (task l p) j → held_for k s l c j (task l p) ≤ b) → hold k s l c j ≤ b
hold_le k s l c j b h =
    most_le (held_for k s l c j) no_task b l.tasks (λ q within.
    by_lt 0 (section (get_or l.tasks q no_task) j)
    (λ used. let here : suc q - 1 ≡ q = omega arith in rw here at (h (suc q) (omega arith) within (rw here used)))
    (λ unused. rw (held_none k s l c j (get_or l.tasks q no_task) (omega arith)) (omega arith)))

module _ (k : Kind) (s : ℕ → ℕ) (l : Ledger) (ok : Sound k l) (c : List ℕ) (fits : Fits l c) (serves : Serves k s l c) where
  -- the instant of the task at the ceiling is one at which the section of any user is through
  through_at : (p j : ℕ) → 1 ≤ p → p ≤ length l.tasks → 1 ≤ j → j ≤ 16 → 0 < section (task l p) j → (t : ℕ) × (1 ≤ t) × (t ≤ (task l (ceiling c j)).deadline) × (hold_work k s l c j (task l p) t ≤ s t)
  through_at p j low high jl jh used =
      let (cl, ch) = user_ceiling l c fits j p jl jh low used in
      let (t, at_t) = serves (ceiling c j) cl (omega arith) in
      let enough = at_t.served in
      let inside : hold_work k s l c j (task l p) t ≤ s t =
      by_lt (ceiling c j) p
      (λ u. let v : section (task l p) j ≤ blocking l c (ceiling c j) = blocking_ge l c (ceiling c j) p j u high jl jh cl (omega arith) in omega arith)
      (λ u.
      let here : p ≡ ceiling c j = omega arith in
      let v : section (task l p) j ≤ k.longest (task l p).row = (ok.each p low high).short j in
      let w : section (task l p) j ≤ k.longest (task l (ceiling c j)).row = rw (sym here) v in
      omega arith) in
      (t, at_t.from, at_t.to, inside)

  module _ (laws : Laws k) where
    ceiling_soon : (j : ℕ) → 1 ≤ j → j ≤ 16 → 1 ≤ ceiling c j → (task l (ceiling c j)).deadline ≤ last_instant
    ceiling_soon j jl jh cl =
        let x = ok.each (ceiling c j) cl (ceiling_within l c fits j jl jh) in
        omega (arith, x.deadline_high, (laws.lawful (task l (ceiling c j)).row x.lawful).separation_high)

    -- every user of a resource has a hold time
    pub held_serving : (p j : ℕ) → 1 ≤ p → p ≤ length l.tasks → 1 ≤ j → j ≤ 16 → 0 < section (task l p) j → Held k s l c j (task l p)
    held_serving p j low high jl jh used =
        let (t, tl, th, enough) = through_at p j low high jl jh used in
        let soon = ceiling_soon j jl jh (user_ceiling l c fits j p jl jh low used).0 in
        let (from, by, through) = held_by k s l c j (task l p) t used tl (omega arith) enough in
        record {
          from = from;
          to = omega arith;
          through = through;
          earliest = λ u ul uh. by_lt u last_instant (λ v. (held_by k s l c j (task l p) u used ul (omega arith) uh).1) (λ v. omega arith);
        }

    held_falls : (d : List ℕ) (p j : ℕ) → 1 ≤ p → p ≤ length l.tasks → 1 ≤ j → j ≤ 16 → ceiling d j ≤ ceiling c j → 0 < section (task l p) j → held_for k s l d j (task l p) ≤ held_for k s l c j (task l p)
    held_falls d p j low high jl jh below used =
        let soon = ceiling_soon j jl jh (user_ceiling l c fits j p jl jh low used).0 in
        let by_c = held_serving p j low high jl jh used in
        by (held_for k s l c j (task l p)) by_c.from (le_trans by_c.to soon) by_c.through
      where
        by : (t : ℕ) → 1 ≤ t → t ≤ last_instant → hold_work k s l c j (task l p) t ≤ s t → held_for k s l d j (task l p) ≤ t
        by t tl th enough =
            let fewer : requests k (above l (ceiling d j)) t ≤ requests k (above l (ceiling c j)) t = requests_of_fewer k (rows l) (ceiling d j - 1) (ceiling c j - 1) t (omega arith) in
            let sooner : hold_work k s l d j (task l p) t ≤ s t = omega arith in
            (held_by k s l d j (task l p) t used tl th sooner).1

    -- a lower ceiling has no longer hold time
    pub hold_falls : (d : List ℕ) (j : ℕ) → 1 ≤ j → j ≤ 16 → ceiling d j ≤ ceiling c j → hold k s l d j ≤ hold k s l c j
    hold_falls d j jl jh below =
        hold_le k s l d j (hold k s l c j) (λ p low high used.
        le_trans (held_falls d p j low high jl jh below used) (most_ge (held_for k s l c j) no_task l.tasks (p - 1) (omega arith)))
