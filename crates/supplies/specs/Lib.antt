pub mod Supplied
pub mod Shares
pub mod Refusals
pub mod Codes
pub mod LawProofs
