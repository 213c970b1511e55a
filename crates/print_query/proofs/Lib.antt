pub mod Todo
pub mod Openings
pub mod Turns
pub mod Tables
pub mod Lines
