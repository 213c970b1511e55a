pub mod Callers
pub mod Opened
