pub mod Marks
pub mod Texts
