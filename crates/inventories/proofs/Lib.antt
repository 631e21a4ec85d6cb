pub mod EntryLines
pub mod Told
