-- Why load kinds keep the laws of kinds: lemmas, and no definition that a contract cites. They stand here and not in proofs/ because each
-- implementation of the trait cites its law's proof.
pub mod Lowest
pub mod Guarded
pub mod Periodic
pub mod PlainLaws
pub mod Frames
pub mod FramedLaws
pub mod JitteredLaws
