pub mod Comparing
pub mod Clocks
pub mod Sides
pub mod Relating
pub mod Evaluating
pub mod Views
pub mod Limits
pub mod Shown
