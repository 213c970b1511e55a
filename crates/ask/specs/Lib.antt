pub mod Replies
pub mod Cells
pub mod Lines
pub mod Asking
