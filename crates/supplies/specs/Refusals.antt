-- The numbers that refusals are known by.
use Rattle.std.specs.Prelude.{ℕ}
use Rattle.supplies.specs.declared.fault.SupplyFault.{SupplyFault}
use Rattle.supplies.specs.declared.fault.SupplyFault.TheVariants.{Share}

-- the number of each fault
abbrev pub refusal : SupplyFault → ℕ
refusal Share = 9
