pub mod Columns
pub mod Ranges
pub mod Rounding
