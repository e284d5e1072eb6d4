pub mod Refusals
pub mod Ledger
pub mod Ceilings
pub mod Instants
pub mod Questions
pub mod History
pub mod Sound
pub mod Settled
