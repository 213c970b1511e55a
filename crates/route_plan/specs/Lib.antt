pub mod Ways
pub mod Suits
