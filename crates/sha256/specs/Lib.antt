pub mod Words
pub mod Schedule
pub mod Windows
pub mod Compression
pub mod Padding
pub mod Message
pub mod Roots
pub mod Running
