pub mod Clip
pub mod Steps
pub mod Examples
