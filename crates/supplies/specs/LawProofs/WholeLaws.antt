-- The whole processor keeps the laws of supplies.
use Rattle.std.specs.Prelude.{refl}
use Rattle.std.proofs.Common.{arith}
use Rattle.supplies.specs.LawProofs.Formulas.{formula_laws}
use Rattle.supplies.specs.Supplied.{Laws, whole}

pub whole_laws : Laws whole
whole_laws = formula_laws (λ t. t) refl (λ t. record { keeps = omega arith; adds = omega arith })
