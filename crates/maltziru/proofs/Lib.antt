pub mod Said
pub mod Lists
pub mod Refusals
pub mod Demands
