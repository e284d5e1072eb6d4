-- A supply never falls, and gives at most what there is of time.
use Rattle.std.proofs.Common.{◌≡◌, ℕ, zero, suc, ◌<◌, ◌≤◌, min, ap, ⊎_elim, arith}
use Rattle.std.proofs.lemmas.Bool.{cases_lt}
use Rattle.supplies.specs.Supplied.{Laws, last_instant}

module _ (s : ℕ → ℕ) (laws : Laws s) where
  pub supply_rises : (t u : ℕ) → t ≤ u → s t ≤ s u
  supply_rises t zero h = let same : s t ≡ s 0 = ap s (omega arith) in omega arith
  supply_rises t (suc u) h =
      ⊎_elim
      (λ (less : t < suc u). let before = supply_rises t u (omega arith) in let tick = laws.ticks u in omega arith)
      (λ (more : suc u ≤ t). let same : s t ≡ s (suc u) = ap s (omega arith) in omega arith)
      (cases_lt t (suc u))

  supply_within : (t : ℕ) → s t ≤ t
  supply_within zero = omega (arith, laws.starts)
  supply_within (suc t) = let before = supply_within t in let tick = laws.ticks t in omega arith

  -- past the last instant nothing more is given
  pub supply_last : (t : ℕ) → s t ≤ s last_instant
  supply_last t = omega (arith, laws.late t, supply_rises (min t last_instant) last_instant (omega arith))

  pub supply_bounded : (t : ℕ) → s t ≤ last_instant
  supply_bounded t = omega (arith, supply_last t, supply_within last_instant)
