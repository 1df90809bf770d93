pub mod Matrix
pub mod Holds
pub mod Steps
pub mod Examples
