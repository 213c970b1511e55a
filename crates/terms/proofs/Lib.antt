pub mod Codes
pub mod References
pub mod Numbers
pub mod Operands
pub mod Comparisons
pub mod Sides
pub mod Resolving
