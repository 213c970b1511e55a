pub mod Columns
pub mod Fours
pub mod Keyed
