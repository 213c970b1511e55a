pub mod Firsts
pub mod Telling
