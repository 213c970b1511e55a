pub mod Loops
pub mod Closing
pub mod StreamLists
pub mod Entries
pub mod ColumnLists
pub mod Repeats
pub mod Declared
pub mod ColumnBits
