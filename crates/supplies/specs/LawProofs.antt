-- Why supplies keep the laws of supplies: lemmas, and no definition that a contract cites. They stand here and not in proofs/ because each
-- implementation of the trait cites its law's proof.
pub mod Formulas
pub mod Rounds
pub mod WholeLaws
pub mod ShareLaws
