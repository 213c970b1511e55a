pub mod Tests
pub mod Stored
pub mod Walks
pub mod Written
pub mod Shown
