pub mod Turns
pub mod Shown
pub mod SideBySide
pub mod OnPair
pub mod OneStream
pub mod Granting
