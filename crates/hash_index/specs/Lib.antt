pub mod Matches
pub mod Steps
pub mod Examples
