pub mod Reckoning
pub mod Standing
pub mod Sets
pub mod Figures
