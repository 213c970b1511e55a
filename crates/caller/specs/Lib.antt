pub mod Callers
pub mod Lines
