pub mod Rounds
pub mod Cut
pub mod Whole
