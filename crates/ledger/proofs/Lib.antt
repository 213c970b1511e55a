pub mod Bounds
pub mod Soundness
pub mod Entering
pub mod Told
pub mod Rows
pub mod Kept
pub mod Valid
