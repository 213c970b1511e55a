pub mod Leaves
pub mod Owning
pub mod Nesting
pub mod Walking
pub mod Answering
