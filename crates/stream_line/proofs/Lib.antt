pub mod Names
pub mod Flags
pub mod Lines
pub mod Declared
