pub mod Kept
pub mod Routes
