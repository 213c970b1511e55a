pub mod Columns
pub mod Pairs
pub mod Alone
pub mod Joined
pub mod Given
