pub mod Words
pub mod Keywords
pub mod Readings
