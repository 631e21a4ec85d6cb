pub mod Forms
pub mod Steps
pub mod Blocks
pub mod Schedules
pub mod Paddings
pub mod Constants
pub mod Maps
