pub mod Lines
pub mod Rooms
pub mod Printing
pub mod Keeping
