pub mod Slots
pub mod CodeTests
pub mod Sound
pub mod Made
pub mod LineChecks
pub mod LineParts
pub mod LineRead
pub mod Identifying
