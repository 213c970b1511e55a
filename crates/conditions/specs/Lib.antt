pub mod Seeing
pub mod Steps
