pub mod Extremes
pub mod Instants
pub mod Levels
