pub mod Placing
pub mod Asking
pub mod Texts
