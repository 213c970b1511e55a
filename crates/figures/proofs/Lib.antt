pub mod Comparing
pub mod Evaluating
