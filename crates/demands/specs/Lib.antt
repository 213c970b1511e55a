pub mod Recording
pub mod Lending
pub mod Holding
pub mod Refusing
