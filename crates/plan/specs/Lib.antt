pub mod Plans
pub mod Bounds
