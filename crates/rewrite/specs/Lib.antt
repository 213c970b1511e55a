pub mod Rewrites
pub mod Routed
