pub mod Makes
pub mod Tables
pub mod Codes
pub mod Exact
pub mod Fields
pub mod Shapes
