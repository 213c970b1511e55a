pub mod Scopes
pub mod Evaluating
