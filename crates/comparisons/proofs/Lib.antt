pub mod Walked
pub mod Entries
pub mod Naming
pub mod Equated
