pub mod Flat
pub mod Indices
pub mod Tables
