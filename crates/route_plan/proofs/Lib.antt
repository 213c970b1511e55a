pub mod Routed
pub mod Ends
pub mod Offsets
pub mod Meant
pub mod Suited
pub mod Spans
pub mod Evaluated
pub mod Short
