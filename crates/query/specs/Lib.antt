pub mod Forms
pub mod Tables
pub mod Shapes
