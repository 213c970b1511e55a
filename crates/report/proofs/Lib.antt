pub mod Dues
pub mod Numbers
pub mod Lengths
pub mod Writing
pub mod Printed
pub mod Answers
pub mod Samples
