-- When a table serves: by the slack of each position, and by each resource alone; it is enough to try the natural ceilings.
use Rattle.std.proofs.Common.{◌≡◌, ℕ, ◌≤◌, ◌↔◌, List, length, ℤ, pos, nat_abs, ◌≤ℤ◌, arith}
use lib.Signed.{yes_non_neg, pos-nat_abs}
use Rattle.std.proofs.lemmas.Int.{ints}
use Rattle.loads.specs.Kind.{Kind}
use Rattle.analysis.specs.Instants.{left_over}
use Rattle.ledger.specs.Ledger.{Ledger, task, section}
use Rattle.ledger.specs.Ceilings.{natural, natural_table, Fits, blocking}
use Rattle.ledger.specs.Instants.{above, job, Instant, Serves, slack, Servable}
use Rattle.ledger.specs.Sound.{Sound}
use Rattle.ledger.specs.Settled.{NaturallyBorne}
use Rattle.ledger.proofs.Bearing.{Borne, Bearable}
use Rattle.ledger.proofs.Natural.{natural_user, natural_at, natural_fits, user_ceiling}
use Rattle.ledger.proofs.Blocking.{blocking_ge, blocking_le}
use Rattle.ledger.proofs.Instants.{slack_is}

module _ (k : Kind) (s : ℕ → ℕ) where
  -- every slack bears the blocking
  abbrev pub SlacksBear : Ledger → List ℕ → Type 0
  SlacksBear l c = (i : ℕ) → 1 ≤ i → i ≤ length l.tasks → pos (blocking l c i) ≤ℤ slack k s l i

  -- ---- one position

  module _ (l : Ledger) (c : List ℕ) (i : ℕ) where
    pub instant_slack : (t : ℕ) → Instant k s l c i t → pos (blocking l c i) ≤ℤ slack k s l i
    instant_slack t h =
        let reached : left_over k s (above l i) (job k l i) t ≤ℤ slack k s l i = (slack_is k s l i).above t h.from (omega (arith, h.to)) in
        omega (arith, ints, h.served)

    pub slack_instant : 1 ≤ (task l i).deadline → pos (blocking l c i) ≤ℤ slack k s l i → (t : ℕ) × Instant k s l c i t
    slack_instant low h =
        let (t, from, to, same) = (slack_is k s l i).reached in
        let there : left_over k s (above l i) (job k l i) t ≡ slack k s l i = same in
        (t, record { from = from; to = omega arith; served = omega (arith, ints) })

  -- ---- a table

  pub serves_slacks : (l : Ledger) (c : List ℕ) → Serves k s l c → SlacksBear l c
  serves_slacks l c h i low high = let (t, at_t) = h i low high in instant_slack l c i t at_t

  pub slacks_serve : (l : Ledger) (c : List ℕ) → Sound k l → SlacksBear l c → Serves k s l c
  slacks_serve l c ok h i low high = slack_instant l c i (ok.each i low high).deadline_low (h i low high)

  pub slacks_borne : (l : Ledger) (c : List ℕ) → SlacksBear l c → Borne k s l c
  slacks_borne l c h = record {
    slack_left = λ i low high. let u = h i low high in omega (arith, ints);
    borne = λ j jl jh cl i ch high p below within.
        let u = h i (omega arith) high in
        let v : section (task l p) j ≤ blocking l c i = blocking_ge l c i p j below within jl jh cl ch in
        omega (arith, ints);
  }

  pub borne_slacks : (l : Ledger) (c : List ℕ) → Borne k s l c → SlacksBear l c
  borne_slacks l c h i low high =
      let left = h.slack_left i low high in
      let whole : pos (nat_abs (slack k s l i)) ≡ slack k s l i = pos-nat_abs (slack k s l i) (yes_non_neg left) in
      let each : blocking l c i ≤ nat_abs (slack k s l i) = blocking_le l c i (nat_abs (slack k s l i)) (λ p j below within jl jh cl ch. let u = h.borne j jl jh cl i ch high p below within in omega (arith, ints)) in
      omega (arith, ints)

  -- a table serves exactly when each resource by itself is borne from its ceiling on
  pub serves_iff : (l : Ledger) → Sound k l → (c : List ℕ) → Serves k s l c ↔ Borne k s l c
  serves_iff l ok c = (λ h. slacks_borne l c (serves_slacks l c h), λ h. slacks_serve l c ok (borne_slacks l c h))

  -- ---- the natural table

  pub bearable_from : (l : Ledger) (c : List ℕ) → Fits l c → Borne k s l c → Bearable k s l
  bearable_from l c fits h = record {
    slack_left = h.slack_left;
    borne = λ j u i jl jh low used above high.
        let (cl, ch) = user_ceiling l c fits j u jl jh low used in
        h.borne j jl jh cl i (omega arith) high;
  }

  pub natural_borne : (l : Ledger) → Bearable k s l → Borne k s l (natural_table l)
  natural_borne l h = record {
    slack_left = h.slack_left;
    borne = λ j jl jh cl i ch high.
        let here = natural_at l j jl jh in
        let low : 1 ≤ natural l.tasks j = omega arith in
        let (within, used) = natural_user l.tasks j low in
        h.borne j (natural l.tasks j) i jl jh low used (omega arith) high;
  }

  pub servable_iff : (l : Ledger) → Sound k l → Servable k s l ↔ Bearable k s l
  servable_iff l ok = (
    λ h. bearable_from l h.0 h.1 ((serves_iff l ok h.0).0 h.2),
    λ h. (natural_table l, natural_fits l, (serves_iff l ok (natural_table l)).1 (natural_borne l h)),
  )

  -- if any table fits and serves, the natural one does
  pub natural_serves : (l : Ledger) → Sound k l → Servable k s l → Serves k s l (natural_table l)
  natural_serves l ok h = (serves_iff l ok (natural_table l)).1 (natural_borne l ((servable_iff l ok).0 h))

  -- a ledger can be served exactly when its slacks bear the blocking under the natural ceilings
  pub servable_by_slacks : (slacks : ℕ → ℤ) (l : Ledger) → Sound k l → ((i : ℕ) → 1 ≤ i → i ≤ length l.tasks → slacks i ≡ slack k s l i) → NaturallyBorne slacks l ↔ Servable k s l
  servable_by_slacks slacks l ok same = (
    λ h. (natural_table l, natural_fits l, slacks_serve l (natural_table l) ok (λ i low high. rw (same i low high) at (h i low high))),
    λ h i low high. rw (same i low high) (serves_slacks l (natural_table l) (natural_serves l ok h) i low high),
  )
