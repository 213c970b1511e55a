pub mod Selecting
pub mod Masks
pub mod Streams
