-- Slacks and first instants from what is read by the index of a task.
use Rattle.std.proofs.Common.{◌≡◌, ℕ, ◌+◌, List, take, ℤ, pos, sym, ap, ◌∙◌, add-sub_cancel}
use Rattle.loads.specs.Kind.{Kind}
use Rattle.ledger.specs.Instants.{above, slack}
use Rattle.ledger.specs.Ledger.{Ledger, rows}
use Rattle.ledger.specs.Settled.{slack_at, lowest_table}
use Rattle.ledger.proofs.Lowest.{lowest_table_same}
use Rattle.table.specs.declared.table.Table.{Table}
use Rattle.table.specs.Tables.{ledger, held}
use Rattle.table.proofs.Running.{Filled}
use Rattle.taskset.specs.Reckoning.{Slacks, Settled}

-- what stands above a task, by its index
pub above_at : (l : Ledger) (i : ℕ) → take i (rows l) ≡ above l (i + 1)
above_at l i = ap (λ n. take n (rows l)) (sym (add-sub_cancel i 1))

-- equal arguments give equal values
pub ap₃ : {A B C X : Type 0} (f : A → B → C → X) {a a' : A} {b b' : B} {c c' : C} → a ≡ a' → b ≡ b' → c ≡ c' → f a b c ≡ f a' b' c'
ap₃ f p q r = λ i. f (p i) (q i) (r i)

module _ (k : Kind) (s : ℕ → ℕ) where
  -- the first n positions have their slacks
  abbrev pub Reckoned : Ledger → ℕ → List ℤ → Type 0
  Reckoned l n slacks = Filled 32 (pos 0) (slack k s l) n slacks

  -- ceilings settled by the slacks of all tasks
  pub settled_by : (t u : Table) (slacks : List ℤ) → Slacks k s (ledger t) slacks → ledger u ≡ ledger t → held u ≡ lowest_table (slack_at slacks) (ledger t) → Settled k s t u
  settled_by t u slacks are entries ceilings = record {
    entries = entries;
    ceilings = ceilings ∙ lowest_table_same (slack_at slacks) (slack k s (ledger t)) (ledger t) are;
  }
