pub mod Lists
pub mod Folds
pub mod NameLists
pub mod ValueLists
pub mod EntryLists
pub mod NameCodes
pub mod Profile
pub mod Sameness
