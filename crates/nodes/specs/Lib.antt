pub mod Nodes
pub mod Storing
pub mod Profiles
