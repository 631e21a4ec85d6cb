pub mod Tabs
pub mod Vectors
pub mod Entries
pub mod Checks
pub mod Records
pub mod Tallies
