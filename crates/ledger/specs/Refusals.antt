-- The numbers that refusals are known by.
use Rattle.std.specs.Prelude.{ℕ}
use Rattle.ledger.specs.declared.fault.SetFault.{SetFault}
use Rattle.ledger.specs.declared.fault.SetFault.TheVariants.{Full, Position, Row, Deadline, Resource, Length, Unserved}

-- the number of each fault
abbrev pub refusal : SetFault → ℕ
refusal Full = 1
refusal Position = 2
refusal (Row f) = 3
refusal Deadline = 4
refusal Resource = 5
refusal Length = 6
refusal Unserved = 8
