pub mod Tabbing
pub mod Names
pub mod Messages
pub mod Readings
pub mod Walks
pub mod Expansions
pub mod Findings
pub mod Tallies
