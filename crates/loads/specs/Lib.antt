pub mod Kind
pub mod Rows
pub mod Plain
pub mod Framed
pub mod Jittered
pub mod Codes
pub mod LawProofs
