mod Samples
pub mod ReadingSamples
pub mod Steps
pub mod Lexical
pub mod Terms
pub mod Items
pub mod Conditions
pub mod Queries
pub mod Grants
pub mod Lengths
pub mod Lines
pub mod Aggregates
pub mod Depths
pub mod Exact
pub mod Leaving
pub mod Ranges
