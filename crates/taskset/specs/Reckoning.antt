-- What the steps of an edit answer: slacks reckoned, ceilings settled, whether an edited table can be served.
use Rattle.std.specs.Prelude.{◌≡◌, ℕ, ◌≤◌, List, length, ℤ, Ok, Err}
use Rattle.loads.specs.Kind.{Kind}
use Rattle.ledger.specs.declared.fault.SetFault.TheVariants.{Unserved}
use Rattle.ledger.specs.History.{Answer}
use Rattle.ledger.specs.Instants.{slack, Servable}
use Rattle.ledger.specs.Ledger.{Ledger}
use Rattle.ledger.specs.Settled.{slack_at, lowest_table}
use Rattle.ledger.specs.Sound.{Sound}
use Rattle.table.specs.declared.table.Table.{Table}
use Rattle.table.specs.Tables.{ledger, held}

module _ (k : Kind) (s : ℕ → ℕ) where
  -- the slacks of a ledger's tasks, by their indices
  abbrev pub Slacks : Ledger → List ℤ → Type 0
  Slacks l slacks = (i : ℕ) → 1 ≤ i → i ≤ length l.tasks → slack_at slacks i ≡ slack k s l i

  -- the same ledger, with the lowest ceilings
  pub record Settled (before after : Table) : Type 0 where
    pub entries : ledger after ≡ ledger before
    pub ceilings : held after ≡ lowest_table (slack k s (ledger before)) (ledger before)

  -- the answer to whether an edited table can be served, and the table that then stands: with the lowest ceilings, or, refused, as it was
  -- where the ledger's numbers are within their limits, it is refused exactly where no table of ceilings fits and serves
  abbrev pub Served : Table → Answer → Table → Type 0
  Served edited (Ok _) after = Settled edited after × (Sound k (ledger edited) → Servable k s (ledger edited))
  Served edited (Err f) after = (f ≡ Unserved) × (after ≡ edited) × (Sound k (ledger edited) → Servable k s (ledger edited) → ⊥)
