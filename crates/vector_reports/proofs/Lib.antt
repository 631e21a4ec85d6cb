pub mod Single
pub mod Sole
pub mod Progress
