pub mod Firsts
pub mod Passing
pub mod Verdicts
pub mod Order
pub mod Passed
pub mod Results
pub mod Samples
