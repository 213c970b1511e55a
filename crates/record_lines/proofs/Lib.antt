pub mod Clocks
pub mod Rows
pub mod Calls
pub mod RowCalls
