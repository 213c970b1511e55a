pub mod Weights
pub mod Clocks
pub mod Spans
