pub mod States
pub mod Fixtures
