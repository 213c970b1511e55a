pub mod Headers
pub mod Keeping
pub mod Routes
