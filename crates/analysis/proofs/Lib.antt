pub mod Totals
pub mod Stretches
pub mod Supplying
pub mod Extremes
pub mod Leftovers
pub mod Serving
