pub mod Lists
pub mod Numbers
pub mod Steps
