-- Rows that are judged entry by entry.
use Rattle.std.specs.Prelude.{◌≡◌, ℕ, zero, suc, ◌≤◌, Bool, if◌then◌else◌, Ok, Err, Result}
use Rattle.loads.specs.declared.rows.RowFault.{RowFault}

-- m, the fault found so far; where that is 0, the number of the entry with index i unless it passes
abbrev pub or_entry : ℕ → Bool → ℕ → ℕ
or_entry zero passes i = if passes then 0 else suc i
or_entry (suc m) passes i = suc m

-- the number, from 1, of the lowest of the first n entries that does not pass the test, 0 where all pass
unfoldable pub lowest : (ℕ → Bool) → ℕ → ℕ
lowest passes zero = 0
lowest passes (suc n) = or_entry (lowest passes n) (passes n) n

-- the answer to whether a row is lawful: yes where no entry is at fault, else the entry at fault
abbrev pub Judged : ℕ → Result (Unit {0}) RowFault → Type 0
Judged fault (Ok _) = fault ≡ 0
Judged fault (Err f) = (fault ≡ f.entry) × (1 ≤ f.entry)
