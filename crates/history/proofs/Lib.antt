pub mod Declared
pub mod Steps
pub mod Beginning
pub mod Later
pub mod Events
pub mod Interference
pub mod Outcomes
pub mod Order
