pub mod Terms
pub mod Steps
pub mod Examples
pub mod Sums
