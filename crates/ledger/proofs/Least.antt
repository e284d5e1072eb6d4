-- Every sound ledger that can be served has a least table, the table of lowest ceilings, and no other.
use Rattle.std.proofs.Common.{◌≡◌, ℕ, ◌≤◌, List, le_antisymm}
use Rattle.loads.specs.Kind.{Kind, Laws}
use Rattle.ledger.specs.Ledger.{Ledger}
use Rattle.ledger.specs.Ceilings.{ceiling, Fits}
use Rattle.ledger.specs.Instants.{Serves, Servable, Least, slack}
use Rattle.ledger.specs.Sound.{Sound}
use Rattle.ledger.specs.Settled.{lowest_table}
use Rattle.ledger.proofs.Largest.{tables_same}
use Rattle.ledger.proofs.Serving.{serves_iff, servable_iff}
use Rattle.ledger.proofs.Lowest.{lowest_fits, lowest_borne, lowest_le}
use Rattle.ledger.proofs.Holds.{hold_falls}

module _ (k : Kind) (s : ℕ → ℕ) (l : Ledger) where
  -- the table of lowest ceilings is least
  pub lowest_least : Laws k → Sound k l → Servable k s l → Least k s l (lowest_table (slack k s l) l)
  lowest_least laws ok h = record {
    fits = lowest_fits (slack k s l) l;
    serves = (serves_iff k s l ok (lowest_table (slack k s l) l)).1 (lowest_borne k s l ((servable_iff k s l ok).0 h));
    lowest = λ d fits serves. under d fits serves;
    shortest = λ d fits serves j jl jh. hold_falls k s l ok d fits serves laws (lowest_table (slack k s l) l) j jl jh (under d fits serves j jl jh);
  }
    where
      under : (d : List ℕ) → Fits l d → Serves k s l d → (j : ℕ) → 1 ≤ j → j ≤ 16 → ceiling (lowest_table (slack k s l) l) j ≤ ceiling d j
      under d fits serves = lowest_le k s l d fits ((serves_iff k s l ok d).0 serves)

  -- there is one least table
  pub least_unique : (c d : List ℕ) → Least k s l c → Least k s l d → c ≡ d
  least_unique c d a b =
      tables_same c d a.fits.size b.fits.size (λ j jl jh.
      le_antisymm (a.lowest d b.fits b.serves j jl jh) (b.lowest c a.fits a.serves j jl jh))

  pub least_servable : (c : List ℕ) → Least k s l c → Servable k s l
  least_servable c h = (c, h.fits, h.serves)
