pub mod Masks
pub mod Bits
pub mod Words
pub mod Loops
