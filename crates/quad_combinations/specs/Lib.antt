pub mod Combinations
pub mod All
pub mod Examples
