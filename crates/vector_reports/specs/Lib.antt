pub mod Entries
pub mod Reports
