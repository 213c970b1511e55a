pub mod Opened
pub mod Listed
pub mod Owned
pub mod Shown
pub mod Reach
pub mod Matched
pub mod Places
pub mod Agreed
