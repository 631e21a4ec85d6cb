pub mod Chains
pub mod Hexes
pub mod Numerals
pub mod Pieces
pub mod Tabs
