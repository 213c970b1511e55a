pub mod Taken
pub mod Opening
pub mod Verbs
pub mod Returns
pub mod Lines
pub mod Running
pub mod Demands
