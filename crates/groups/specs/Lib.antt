pub mod Groups
pub mod Streams
pub mod Compacting
pub mod Merging
pub mod Joins
