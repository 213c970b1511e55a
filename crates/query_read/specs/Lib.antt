pub mod Parts
pub mod Seeing
pub mod Steps
